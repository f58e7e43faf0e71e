use mathlib.Core.Path.{◌≡◌, subst}
use Prim.Native.Nat.{ℕ}
use native.Mathlib.Omega.{arith}
use Rattle.steps_conditions.specs.Names.{LevelsIs, UnchangedIs}
use Rattle.steps_conditions.proofs.NameSlots.{Selves, selves_next}
use borrow.Author.Rules.{rules}
use Rattle.steps_passing.proofs.names.unchanged.Goals as goal

pub returns-then-not-same_levels : goal.returns-then-not-same_levels
unfolding UnchangedIs
returns-then-not-same_levels c = λ e. let z : ◌≡◌ {A = ℕ} 0 1 = cc in absurd (omega arith)

pub loop-i-init : goal.loop-i-init
unfolding Selves
loop-i-init c = (omega arith, λ e n h. absurd (omega arith))

pub overflow_add-i-end : goal.overflow_add-i-end
overflow_add-i-end c = omega (arith, c.requires)

pub loop-i-preserved : goal.loop-i-preserved
loop-i-preserved c = (
  search rules,
  selves_next c.args.names.now c.loop-i.i
      c.loop-i.same c.loop-i.invariant.1,
)

pub returns : goal.returns
unfolding UnchangedIs Selves
returns c =
    λ e. (
      subst (LevelsIs c.args.binders c.args.levels) (c.if-not-same_levels.false) c.same_levels.ensures,
      λ i h.
          c.loop-i.invariant.1 e i (omega (arith, h, c.loop-i-test.false)),
    )
