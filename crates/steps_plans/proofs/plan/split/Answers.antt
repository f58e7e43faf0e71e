use mathlib.Core.Path.{sym}
use native.Mathlib.Nat.{div-add-mod', mod-lt}
use native.Mathlib.Omega.{arith}
use Rattle.steps_plans.proofs.plan.split.Goals as goal

pub returns-then-n-eq0 : goal.returns-then-n-eq0
returns-then-n-eq0 c = record { is = λ z. absurd (omega arith) }

pub returns : goal.returns
returns c = record { is = λ z. (sym (div-add-mod' c.args.j c.args.n), mod-lt c.args.j z) }
