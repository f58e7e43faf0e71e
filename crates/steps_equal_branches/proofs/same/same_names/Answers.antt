use borrow.Author.Rules.{rules}
use mathlib.Core.Path.{◌≡◌, sym, subst, ◌∙◌}
use native.Mathlib.Omega.{arith}
use Prim.Native.Nat.{ℕ}
use Rattle.steps_equal_branches.specs.Same.{SameNames}
use Rattle.steps_equal_branches.proofs.SameLaws.{names_more}
use Rattle.steps_equal_branches.proofs.same.same_names.Goals as goal

pub loop-j-init : goal.loop-j-init
loop-j-init c = (search rules, λ j h. absurd (omega arith))

pub returns-then-u-v : goal.returns-then-u-v
returns-then-u-v c = λ e. let z : ◌≡◌ {A = ℕ} 0 1 = cc in absurd (omega arith)

pub loop-j-preserved : goal.loop-j-preserved
loop-j-preserved c =
    let a = c.args in (
      search rules,
      names_more a.src.now a.args.now
          a.inner a.depth a.p a.at c.loop-j.j
          c.loop-j.invariant.1 (sym c.slot-u.ensures ∙ c.if-u-v.false ∙
          c.slot-v.ensures),
    )

pub returns : goal.returns
returns c =
    let a = c.args in
    let e : c.loop-j.j ≡ a.n = omega (arith, c.loop-j.invariant.0, c.loop-j-test.false) in
    λ _. subst (λ (k : ℕ). SameNames a.src.now a.args.now a.inner a.depth a.p a.at k) e c.loop-j.invariant.1
