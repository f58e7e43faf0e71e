use mathlib.Core.Path.{◌≡◌, subst}
use native.Mathlib.Omega.{arith}
use Prim.Native.Nat.{ℕ}
use Rattle.steps_conditions.specs.Slots.{HasSlotClasses}
use Rattle.steps_equal_branches.specs.Same.{chain}
use Rattle.steps_equal_branches.proofs.BranchLaws.{classes_more}
use borrow.Author.Rules.{rules}
use Rattle.steps_equal_branches.proofs.same.chain_condition.Goals as goal

pub loop-j-init : goal.loop-j-init
unfolding chain
loop-j-init c = (search rules, c.empty-c.ensures)

pub loop-j-preserved : goal.loop-j-preserved
loop-j-preserved c =
    let v = c.args in (
      search rules,
      classes_more v.src.now v.args.now v.inner v.depth v.p c.loop-j.j
          c.get.result c.slot-u.result c.get-in-loop-j.result
          c.slot-v.result c.get.ensures c.slot-u.ensures
          c.get-in-loop-j.ensures c.slot-v.ensures c.loop-j.c.class
          c.merge-c.result.class c.merge-c.ensures c.loop-j.invariant.1,
    )

pub returns : goal.returns
returns c =
    let v = c.args in
    let e : c.loop-j.j ≡ v.n = omega (arith, c.loop-j.invariant.0, c.loop-j-test.false) in
    subst (λ (k : ℕ). HasSlotClasses c.loop-j.c.class (chain v.src.now v.args.now v.inner v.depth v.p k)) e c.loop-j.invariant.1
