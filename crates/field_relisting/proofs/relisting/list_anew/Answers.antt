use native.Mathlib.Omega.{arith}
use mathlib.Core.Path.{sym}
use lib.Seq.{length-take-le}
use Rattle.field_kept_lists.specs.ListArea.{label_place}
use Rattle.field_kept_lists.proofs.ListAreaLaws.{room_kept, side_unlabelled, listed_at_hand, side_is}
use Rattle.field_relisting.proofs.relisting.list_anew.Goals as goal

pub slice_bounds-list_tallied-end-2 : goal.slice_bounds-list_tallied-end-2
slice_bounds-list_tallied-end-2 c =
    sym (length-take-le label_place c.args.area.now (omega (arith, c.requires.6.room)))

pub list_tallied-answer-requires : goal.list_tallied-answer-requires
list_tallied-answer-requires c =
    (omega (arith, length-take-le label_place c.args.area.now (omega (arith, c.requires.6.room))), c.requires.4, c.requires.1, c.requires.2, c.requires.3)

pub bounds-area-34048 : goal.bounds-area-34048
bounds-area-34048 c = omega (arith, room_kept c.args.area.now c.list_tallied-answer.new.area c.list_tallied-answer.auto.area c.requires.6.room)

pub put_label-requires : goal.put_label-requires
put_label-requires c =
    (omega (arith, room_kept c.args.area.now c.list_tallied-answer.new.area c.list_tallied-answer.auto.area c.requires.6.room), c.requires.4, c.requires.0, c.list_tallied-answer.ensures.few _ c.in-Some.is)

pub keep-requires : goal.keep-requires
keep-requires c = (
  omega (arith, room_kept c.args.area.now c.list_tallied-answer.new.area c.list_tallied-answer.auto.area c.requires.6.room, c.put_label.auto.area),
  c.requires.5,
  c.requires.4,
  c.requires.0,
  c.list_tallied-answer.ensures.few _
      c.in-Some.is,
)

pub returns-in-None : goal.returns-in-None
returns-in-None c =
    side_unlabelled _ _ _ _ _ _ c.list_tallied-answer.ensures c.list_tallied-answer.auto.area c.requires.6 c.in-None.is

pub returns-in-Some : goal.returns-in-Some
returns-in-Some c =
    let made = listed_at_hand _ _ _ _ _ _ c.list_tallied-answer.ensures c.list_tallied-answer.auto.area c.requires.6 _
    c.in-Some.is _ c.put_label.ensures (omega (arith, room_kept c.args.area.now c.list_tallied-answer.new.area c.list_tallied-answer.auto.area c.requires.6.room, c.put_label.auto.area)) in
    side_is _ _ _ _ _ c.requires.4 (c.keep.ensures _ made.1 made.0)
