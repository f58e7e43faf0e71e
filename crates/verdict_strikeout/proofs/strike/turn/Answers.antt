use mathlib.Core.Path.{refl}
use Rattle.verdict_answers.specs.Striking.{turned}
use Rattle.verdict_strikeout.proofs.strike.turn.Goals as goal

pub returns-then-rising : goal.returns-then-rising
unfolding turned
returns-then-rising c = rw c.if-rising.true refl

pub returns : goal.returns
unfolding turned
returns c = rw c.if-rising.false refl
