use native.Mathlib.Omega.{arith}
use borrow.Author.Rules.{rules}
use Prim.Native.Nat.{◌+◌}
use Rattle.steps_conditions.proofs.ClassBytes.{own-none, own_next, own_not, trivial_is, not_trivial}
use Rattle.steps_conditions.proofs.condition.Condition.is_trivial.Goals as goal
use Rattle.steps_conditions.proofs.condition.Condition.is_trivial.Goals.{then-classes-at, else-classes-at}

pub returns-then-classes-at-lt-NAMES : goal.returns-then-classes-at-lt-NAMES
returns-then-classes-at-lt-NAMES c = not_trivial _ _ (omega arith)

pub loop-n-init : goal.loop-n-init
loop-n-init c = (search rules, own-none _ _)

pub overflow_cast-classes : goal.overflow_cast-classes
overflow_cast-classes c = omega (arith, c.shared_slice_known-1.given (c.args.at + c.loop-n.n))

pub loop-n-preserved : goal.loop-n-preserved
loop-n-preserved c =
    elim c.if-classes-at.branch [
      | then-classes-at w ↦ (search rules, rw w.own-is (own_not _ _ _ _ (omega arith) c.loop-n.invariant.1 w.if-classes-at.true))
      | else-classes-at w ↦ (search rules, rw w.own-is (own_next _ _ _ _ (omega arith) c.loop-n.invariant.1 w.if-classes-at.false))
    ]

pub returns : goal.returns
returns c = trivial_is _ _ c.loop-n.n _ (omega arith) c.loop-n.invariant.1
