use native.Mathlib.Omega.{arith}
use Rattle.verdict_strikeout.proofs.BlockLaws.{width_none, width_one, width_more}
use Rattle.verdict_strikeout.proofs.strike.width.Goals as goal

pub returns-in-0 : goal.returns-in-0
returns-in-0 c = width_none _ c.in-0.is

pub returns-in-1 : goal.returns-in-1
returns-in-1 c = width_one _ c.in-1.is

pub returns-in_default : goal.returns-in_default
returns-in_default c = width_more c.args.level (λ e. absurd (omega arith)) (λ e. absurd (omega arith))
