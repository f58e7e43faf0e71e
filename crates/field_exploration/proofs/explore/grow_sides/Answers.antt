use native.Mathlib.Omega.{arith}
use mathlib.Core.Path.{refl}
use Rattle.field_growth.proofs.GrowingLaws.{sides_full, sides_both}
use borrow.Author.Rules.{rules}
use Rattle.field_exploration.proofs.explore.grow_sides.Goals as goal

pub grow_side-requires-2 : goal.grow_side-requires-2
grow_side-requires-2 c =
    let g = rw c.in_ok-so_far.was at c.grow_side.ensures in let b =
    g.grows.within _ refl in search rules

pub returns-in_err-so_far : goal.returns-in_err-so_far
returns-in_err-so_far c =
    rw c.from_residual.ensures (sides_full _ _ _ _ _ _ _ _ _ _ _ _ _ (rw (c.requires.3, c.in_err-so_far.was) at c.grow_side.ensures))

pub returns : goal.returns
returns c =
    sides_both _ _ _ _ _ _ _ _ _ _ _ _ (omega arith) _ _ (rw (c.requires.3, c.in_ok-so_far.was) at c.grow_side.ensures) _ _
    c.grow_side-2.ensures
