use native.Mathlib.Omega.{arith}
use Rattle.verdict_strikeout.proofs.StrikeLaws.{start_gone, none_struck_stays}
use Rattle.verdict_start.proofs.passes.start_survives.Goals as goal

pub returns-then-not-left_at : goal.returns-then-not-left_at
returns-then-not-left_at c = start_gone _ _ _ _ _ _ c.left_at.ensures (c.if-not-left_at.true)

pub overflow_mul-rising : goal.overflow_mul-rising
overflow_mul-rising c =
    omega (arith, (c.first_struck.ensures.some _ c.in-Some.is).0, c.requires.0.1, c.requires.0.2)

pub returns-in_default : goal.returns-in_default
returns-in_default c = none_struck_stays _ _ _ _ _ _ (omega arith) c.first_struck.ensures c.in_default.is
