use mathlib.Core.Path.{refl}
use Rattle.verdict.specs.Outcome.{code_of, coded}
use Rattle.exchange_codes.proofs.codes.none.Goals as goal

pub returns : goal.returns
unfolding code_of coded
returns c = refl
