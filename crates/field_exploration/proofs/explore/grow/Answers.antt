use native.Mathlib.Omega.{arith}
use Rattle.field_exploration.proofs.ExploringLaws.{grow_past, grow_listed}
use mathlib.Core.Path.{refl}
use Rattle.field_exploration.proofs.explore.grow.Goals as goal

pub take_up-up-requires : goal.take_up-up-requires
take_up-up-requires c =
    (omega (arith, c.requires.0.waits, c.requires.0.few, c.requires.0.room), c.requires.1, c.requires.2, c.requires.3, c.requires.4, c.requires.5)

pub grow_sides-requires : goal.grow_sides-requires
grow_sides-requires c =
    let b = c.take_up-up.ensures.0.few _ _ c.in_ok-n.was in
    let k = c.take_up-up.ensures.1.room in
    let l = c.take_up-up.ensures.2.room in
    (c.requires.0, record { most = b.0; room = omega (arith, k) }, record { most = b.1; room = omega (arith, l) }, refl)

pub returns-in_err-n : goal.returns-in_err-n
returns-in_err-n c = (
  rw c.from_residual.ensures (grow_past _ _ _ _ _ _ c.requires.0.waits _ _ _ c.take_up-up.ensures.0 c.in_err-n.was),
  c.take_up-up.ensures.1,
  c.take_up-up.ensures.2,
)

pub returns : goal.returns
returns c = (
  grow_listed _ _ _ _ _ _ c.requires.0.waits _ _ _ c.take_up-up.ensures.0 _ _ c.in_ok-n.was _ c.arities_of.ensures _ _
      c.grow_sides.ensures,
  c.take_up-up.ensures.1,
  c.take_up-up.ensures.2,
)
