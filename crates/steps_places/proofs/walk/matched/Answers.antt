use native.Mathlib.Nat.{le_refl}
use Rattle.steps_places.proofs.SlotLaws.{matched-first, matched-second, matched-merged}
use Rattle.steps_places.proofs.walk.matched.Goals as goal

pub returns-in_default : goal.returns-in_default
returns-in_default c =
    let v = c.args in
    matched-first v.question.now v.src.now v.at v.spot.call v.spot.row v.spot.count v.table.now c.called_names-names.result
    c.called_names-names.ensures v.spot.count (c.slot_of.ensures.none c.in_default.is) (le_refl _) _

pub returns-in_default-slot_of : goal.returns-in_default-slot_of
returns-in_default-slot_of c =
    let v = c.args in
    matched-second v.question.now v.src.now v.at v.spot.call v.spot.row v.spot.count v.table.now c.called_names-names.result
    c.called_names-names.ensures c.in-Some.i (c.slot_of.ensures.some _ c.in-Some.is).1 v.spot.count (c.slot_of-2.ensures.none c.in_default-slot_of.is)
    (le_refl _) _

pub merged_row-requires : goal.merged_row-requires
merged_row-requires c = (c.requires.2, (c.slot_of.ensures.some _ c.in-Some.is).0, (c.slot_of-2.ensures.some _ c.in-Some-slot_of.is).0)

pub returns : goal.returns
returns c =
    let v = c.args in
    matched-merged v.question.now v.src.now v.at v.spot.call v.spot.row v.spot.count v.table.now c.called_names-names.result
    c.called_names-names.ensures c.in-Some.i (c.slot_of.ensures.some _ c.in-Some.is).1 c.in-Some-slot_of.j (c.slot_of-2.ensures.some _ c.in-Some-slot_of.is).1 _
    c.merged_row.ensures
