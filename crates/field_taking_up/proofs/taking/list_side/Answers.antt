use native.Mathlib.Omega.{arith}
use Rattle.field_kept_lists.proofs.KeptListLaws.{few_kept}
use Rattle.field_kept_lists.proofs.ListAreaLaws.{long_part, side_at_hand, side_is}
use Rattle.field_renewal.proofs.RenewingLaws.{side_renewed}
use Rattle.field_taking_up.proofs.taking.list_side.Goals as goal

pub returns-then-part-gt-LONGEST_TERM : goal.returns-then-part-gt-LONGEST_TERM
returns-then-part-gt-LONGEST_TERM c = (long_part _ _ _ _ c.if-part-gt-LONGEST_TERM.true, c.requires.5)

pub has_list-requires : goal.has_list-requires
has_list-requires c = (omega (arith, c.requires.5.room), c.if-part-gt-LONGEST_TERM.false)

pub returns-then-has_list : goal.returns-then-has_list
returns-then-has_list c = (
  side_at_hand _ _ _ _ c.requires.5 c.requires.0 c.if-part-gt-LONGEST_TERM.false (c.has_list.ensures c.if-has_list.true) _
      c.steps_in.ensures,
  c.requires.5,
)

pub kept_place-p-requires : goal.kept_place-p-requires
kept_place-p-requires c = c.if-part-gt-LONGEST_TERM.false

pub has_list-requires-2 : goal.has_list-requires-2
has_list-requires-2 c =
    (omega (arith, c.requires.5.room, c.kept_place-p.ensures.is, c.kept_place-p.ensures.among), c.if-part-gt-LONGEST_TERM.false)

pub bring-requires : goal.bring-requires
bring-requires c =
    (c.requires.5.room, c.kept_place-p.ensures, few_kept _ _ c.requires.5 _ c.kept_place-p.ensures, c.if-part-gt-LONGEST_TERM.false, c.requires.0)

pub returns-then-has_list-2 : goal.returns-then-has_list-2
returns-then-has_list-2 c =
    side_is _ _ _ _ _ c.if-part-gt-LONGEST_TERM.false (c.bring.ensures _ c.requires.5 (c.has_list-2.ensures c.if-has_list-2.true) c.requires.5)

pub has_list-requires-3 : goal.has_list-requires-3
has_list-requires-3 c =
    (omega (arith, c.requires.4.room, c.kept_place-p.ensures.is, c.kept_place-p.ensures.among), c.if-part-gt-LONGEST_TERM.false)

pub copy_kept-requires : goal.copy_kept-requires
copy_kept-requires c = (
  c.requires.4.room,
  c.kept_place-p.ensures,
  few_kept _ _ c.requires.4 _ c.kept_place-p.ensures,
  c.if-part-gt-LONGEST_TERM.false,
  c.requires.0,
  c.requires.5.room,
)

pub returns-then-has_list-3 : goal.returns-then-has_list-3
returns-then-has_list-3 c =
    side_is _ _ _ _ _ c.if-part-gt-LONGEST_TERM.false (c.copy_kept.ensures _ c.requires.4 (c.has_list-3.ensures c.if-has_list-3.true)
    c.requires.5)

pub renew_kept-requires : goal.renew_kept-requires
renew_kept-requires c =
    (c.if-part-gt-LONGEST_TERM.false, c.kept_place-p.ensures, c.requires.4, c.requires.5)

pub list_anew-requires : goal.list_anew-requires
list_anew-requires c =
    (c.requires.0, c.requires.1, c.requires.2, c.requires.3, c.if-part-gt-LONGEST_TERM.false, c.kept_place-p.ensures, c.renew_kept.ensures.1)

pub returns-in-Some : goal.returns-in-Some
returns-in-Some c =
    (side_renewed _ _ _ _ _ c.renew_kept.ensures.0 _ c.in-Some.is c.if-part-gt-LONGEST_TERM.false, c.renew_kept.ensures.1)

pub returns : goal.returns
returns c = c.list_anew.ensures
