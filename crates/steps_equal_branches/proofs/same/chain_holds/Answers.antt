use mathlib.Core.Path.{◌≡◌, subst}
use native.Mathlib.Nat.{zero-add}
use native.Mathlib.Omega.{arith}
use Prim.Native.Nat.{ℕ}
use Rattle.steps_equal_branches.specs.Same.{chain, HoldsIs}
use Rattle.steps_equal_branches.proofs.BranchLaws.{holds_more}
use borrow.Author.Rules.{rules}
use Rattle.steps_equal_branches.proofs.same.chain_holds.Goals as goal

pub loop-j-init : goal.loop-j-init
unfolding HoldsIs chain
loop-j-init c = (search rules, λ M h. tt)

pub returns-then-respects : goal.returns-then-respects
returns-then-respects c = λ e. let z : ◌≡◌ {A = ℕ} 0 1 = cc in absurd (omega arith)

pub loop-j-preserved : goal.loop-j-preserved
loop-j-preserved c =
    let v = c.args in (
      search rules,
      holds_more v.src.now v.args.now v.inner v.depth v.p c.loop-j.j
          c.get.result c.slot-u.result c.get-in-loop-j.result c.slot-v.result
          c.get.ensures c.slot-u.ensures c.get-in-loop-j.ensures c.slot-v.ensures
          v.c.class (search rules) (search rules) (simp zero-add at (c.respects.ensures.merged c.if-respects.false))
          c.loop-j.invariant.1,
    )

pub returns : goal.returns
returns c =
    let v = c.args in
    let e : c.loop-j.j ≡ v.n = omega (arith, c.loop-j.invariant.0, c.loop-j-test.false) in
    λ _. subst (λ (k : ℕ). HoldsIs v.c.class v.src.now v.args.now v.inner v.depth v.p k) e c.loop-j.invariant.1
