use native.Mathlib.Omega.{arith}
use Rattle.field_kept_lists.proofs.ListAreaLaws.{side_list}
use Rattle.field_taking_up.proofs.TakingLaws.{sides_first_past, sides_second_past, sides_names_past, sides_listed}
use Rattle.field_taking_up.proofs.taking.list_sides.Goals as goal

pub list_side-requires : goal.list_side-requires
list_side-requires c =
    (c.requires.0, c.requires.1, c.requires.2, c.requires.3, c.requires.5, c.requires.4)

pub returns-in_err-n : goal.returns-in_err-n
returns-in_err-n c =
    (rw c.from_residual.ensures (sides_first_past _ _ _ _ _ _ _ c.list_side.ensures.0 c.in_err-n.was), c.list_side.ensures.1, c.requires.5)

pub list_second-requires : goal.list_second-requires
list_second-requires c =
    let first = side_list _ _ _ _ _ c.list_side.ensures.0 _ c.in_ok-n.was in
    let k = c.list_side.auto in (
      c.requires.0,
      c.requires.1,
      omega (arith, k, c.requires.2),
      omega (arith, k, c.requires.3),
      c.list_side.ensures.1,
      first.1,
      first.0,
      c.requires.5,
    )

pub returns-in_err-m : goal.returns-in_err-m
returns-in_err-m c =
    (rw c.from_residual-in_err-m.ensures (sides_second_past _ _ _ _ _ _ _ c.list_second.ensures.0 c.in_err-m.was), c.list_side.ensures.1, c.list_second.ensures.1)

pub past_names-requires : goal.past_names-requires
past_names-requires c =
    let n = (side_list _ _ _ _ _ c.list_side.ensures.0 _ c.in_ok-n.was).0.few in
    let m = (side_list _ _ _ _ _ c.list_second.ensures.0 _ c.in_ok-m.was).0.few in
    (omega (arith, n, c.list_side.ensures.1.room), omega (arith, m, c.list_second.ensures.1.room))

pub returns-then-past_names : goal.returns-then-past_names
returns-then-past_names c = (
  sides_names_past _ _ _ _ _ _ c.list_side.ensures.1.room c.list_second.ensures.1.room _ _ (side_list _ _ _ _ _
      c.list_side.ensures.0 _ c.in_ok-n.was).0 (side_list _ _ _ _ _ c.list_second.ensures.0 _ c.in_ok-m.was).0 _
      c.past_names.ensures c.if-past_names.true,
  c.list_side.ensures.1,
  c.list_second.ensures.1,
)

pub returns : goal.returns
returns c = (
  sides_listed _ _ _ _ _ _ c.list_side.ensures.1.room c.list_second.ensures.1.room _ _ (side_list _ _ _ _ _
      c.list_side.ensures.0 _ c.in_ok-n.was).0 (side_list _ _ _ _ _ c.list_second.ensures.0 _ c.in_ok-m.was).0 _
      c.past_names.ensures c.if-past_names.false,
  c.list_side.ensures.1,
  c.list_second.ensures.1,
)
