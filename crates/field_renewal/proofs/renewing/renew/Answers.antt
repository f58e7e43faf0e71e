use mathlib.Core.Path.{sym}
use native.Mathlib.Omega.{arith}
use Prim.Native.Nat.{◌-◌}
use lib.ListN.{length}
use lib.Seq.{length-take-le}
use Rattle.terms_bytes.proofs.Stores.{length-span}
use Rattle.field_kept_lists.specs.ListArea.{label_place, label_bytes}
use Rattle.field_kept_lists.proofs.ListAreaLaws.{room_kept, lent_size, lent_unlabelled, lent_labelled}
use Rattle.field_renewal.proofs.RenewingLaws.{list_renewed, not_renewed, list_at_hand}
use borrow.Author.Rules.{rules}
use Rattle.field_renewal.proofs.renewing.renew.Goals as goal

pub returns-then-y-ge-NAME_COUNT : goal.returns-then-y-ge-NAME_COUNT
returns-then-y-ge-NAME_COUNT c = not_renewed _ _ _ _ c.requires.4

pub returns-then-is_free : goal.returns-then-is_free
returns-then-is_free c = not_renewed _ _ _ _ c.requires.4

pub steps_in-n-requires : goal.steps_in-n-requires
steps_in-n-requires c = omega (arith, c.requires.1)

pub slice_bounds-renew_steps-count : goal.slice_bounds-renew_steps-count
slice_bounds-renew_steps-count c = omega (arith, c.requires.1)

pub slice_bounds-renew_steps-start : goal.slice_bounds-renew_steps-start
slice_bounds-renew_steps-start c = omega (arith, c.requires.1)

pub slice_bounds-renew_steps-end-2 : goal.slice_bounds-renew_steps-end-2
slice_bounds-renew_steps-end-2 c =
    omega (arith, c.requires.4.room)

pub slice_bounds-renew_steps-end-3 : goal.slice_bounds-renew_steps-end-3
slice_bounds-renew_steps-end-3 c =
    sym (length-take-le label_place c.args.area.now (omega (arith, c.requires.4.room)))

pub renew_steps-requires : goal.renew_steps-requires
renew_steps-requires c =
    let v = c.args in
    let g = c.requires in (
      search rules,
      omega (
        arith,
        c.steps_in-n.ensures,
        g.2.few,
        g.1,
        length-span v.kept.now label_bytes (length v.kept.now -
            label_bytes) (omega (arith, g.1)),
      ),
      omega (
        arith,
        c.steps_in-n.ensures,
        g.2.few,
        length-take-le label_place v.area.now (omega
            (arith, g.4.room)),
      ),
    )

pub ascends-requires : goal.ascends-requires
ascends-requires c =
    omega (arith, room_kept c.args.area.now c.renew_steps.new.area c.renew_steps.auto.area c.requires.4.room, c.steps_in-n.ensures, c.requires.2.few)

pub bounds-area-34048 : goal.bounds-area-34048
bounds-area-34048 c =
    omega (arith, room_kept c.args.area.now c.renew_steps.new.area c.renew_steps.auto.area c.requires.4.room, c.steps_in-n.ensures, c.requires.2.few)

pub returns-then-not-ascends : goal.returns-then-not-ascends
returns-then-not-ascends c =
    not_renewed _ _ _ _ (lent_unlabelled c.args.question.now c.args.area.now c.renew_steps.new.area
    c.renew_steps.auto.area c.requires.4)

pub put_label-requires : goal.put_label-requires
put_label-requires c = (
  omega (arith, room_kept c.args.area.now c.renew_steps.new.area c.renew_steps.auto.area c.requires.4.room, c.steps_in-n.ensures, c.requires.2.few),
  c.requires.0,
  omega arith,
  omega (
    arith,
    c.steps_in-n.ensures,
    c.requires.2.few,
  ),
)

pub returns : goal.returns
returns c =
    list_at_hand _ _ _ _ _ (lent_labelled
    c.args.question.now
    c.args.area.now
    c.renew_steps.new.area
    c.renew_steps.auto.area
    c.requires.4
    _ _ _ (list_renewed _ _ _ _ _ _ (omega arith)
    c.requires.1
    c.requires.2
    c.requires.3
    c.arities_of-arities.ensures _
    c.is_free.ensures
    c.if-is_free.false _
    c.steps_in-n.ensures _ _ (lent_size
    c.args.question.now
    c.args.area.now
    c.renew_steps.new.area
    c.renew_steps.auto.area
    c.requires.4)
    c.renew_steps.ensures
    (c.ascends.ensures (c.if-not-ascends.false))) _
    c.put_label.ensures (omega (
      arith,
      c.put_label.auto.area,
      room_kept c.args.area.now c.renew_steps.new.area c.renew_steps.auto.area c.requires.4.room,
    )))
