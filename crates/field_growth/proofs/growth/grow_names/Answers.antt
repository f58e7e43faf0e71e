use native.Mathlib.Omega.{arith}
use mathlib.Core.Path.{refl}
use Rattle.field_growth.proofs.GrowingLaws.{names-start, names_next, names_full, names_end}
use borrow.Author.Rules.{rules}
use Rattle.field_growth.proofs.growth.grow_names.Goals as goal

pub loop-name-init : goal.loop-name-init
loop-name-init c = (
  search rules,
  search rules,
  search rules,
  search rules,
  names-start _ _ _ _ _ _ _ _ _ _ _ _ _
      c.requires.slots.few,
)

pub returns-in_err-so_far : goal.returns-in_err-so_far
returns-in_err-so_far c =
    rw c.from_residual.ensures (names_full _ _ _ _ _ _ _ _ _ _ _ _ _ c.requires.slots.waits _ _ _ _ c.loop-name.invariant.4 (omega (arith, c.loop-name-test.true)) (rw
    c.in_err-so_far.was at c.grow_name.ensures))

pub loop-name-preserved : goal.loop-name-preserved
loop-name-preserved c =
    let g = rw c.in_ok-so_far.was at c.grow_name.ensures in let b = g.grows.within _ refl in (
      search rules,
      search rules,
      omega (arith, b.0, c.loop-name.invariant.2),
      b.1,
      names_next _ _ _ _ _ _ _ _ _ _ _ _ _
          c.requires.slots.waits _ _ _ _ _
          c.loop-name.invariant.4 (omega (
            arith,
            c.loop-name-test.true,
          )) g,
    )

pub returns : goal.returns
returns c = names_end _ _ _ _ _ _ _ _ _ _ _ _ _ _ _ _ c.loop-name.invariant.4 (omega arith)
