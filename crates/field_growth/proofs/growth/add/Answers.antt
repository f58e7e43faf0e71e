use native.Mathlib.Omega.{arith}
use mathlib.Core.Path.{refl}
use Rattle.field_growth.proofs.GrowingLaws.{add_full, add_new, added_full, added_new, added-found}
use Rattle.field_growth.proofs.growth.add.Goals as goal

pub left_at-requires : goal.left_at-requires
left_at-requires c =
    omega (arith, (rw c.in-Some.is at c.find_chained-place.ensures).within _ refl)

pub returns-then-known-capacity : goal.returns-then-known-capacity
returns-then-known-capacity c =
    added_full _ _ _ _ _ (add_full _ _ _ _ (rw c.in-None.is at c.find_chained-place.ensures) c.if-known-capacity.true)

pub returns-in-Some : goal.returns-in-Some
returns-in-Some c =
    added-found _ _ _ _ (omega arith) (omega arith) _ _ (rw c.in-Some.is at c.find_chained-place.ensures) c.left_at.ensures

pub returns-else-known-capacity : goal.returns-else-known-capacity
returns-else-known-capacity c =
    added_new _ _ _ _ (rw c.in-None.is at c.find_chained-place.ensures) (omega (arith, c.if-known-capacity.false)) _ (add_new _ _ _ _ (rw c.in-None.is at
    c.find_chained-place.ensures) (omega (arith, c.if-known-capacity.false)) (omega arith) (omega arith) _ c.put.ensures)
