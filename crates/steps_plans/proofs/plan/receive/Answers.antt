use mathlib.Core.Path.{ap}
use Prim.Native.Nat.{ℕ}
use Rattle.steps_plans.specs.Plans.{sending}
use Rattle.steps_plans.proofs.plan.receive.Goals as goal

pub returns : goal.returns
returns c = ap (λ (b : ℕ). sending b c.args.task) c.get-received.ensures
