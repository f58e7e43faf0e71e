use Rattle.steps_places.proofs.CloseLaws.{close_start, close_more, close_end}
use Rattle.steps_partitions.proofs.PartitionLaws.{way_at}
use mathlib.Core.Path.{◌∙◌}
use native.Mathlib.Omega.{arith}
use Rattle.steps_places.proofs.places.close_row.Goals as goal

pub loop-j-init : goal.loop-j-init
loop-j-init c =
    let v = c.args in (
      c.requires.2,
      omega arith,
      close_start v.question.now v.row v.count v.table.now v.found.now,
    )

pub offset_bounds-found-row : goal.offset_bounds-found-row
offset_bounds-found-row c =
    omega (arith, c.requires.0, (way_at c.args.count 0 (omega (arith, c.requires.1))).1)

pub bounds-found-row : goal.bounds-found-row
bounds-found-row c =
    omega (arith, c.requires.0, c.loop-j.invariant.0, (way_at c.args.count 0 (omega (arith, c.requires.1))).1)

pub open_place-requires : goal.open_place-requires
open_place-requires c =
    ((c.next_pending.ensures.pending _ c.in-Some.is).0, c.requires.1, c.loop-j.invariant.0, c.requires.3)

pub loop-j-smaller : goal.loop-j-smaller
loop-j-smaller c =
    omega (arith, c.loop-j.invariant.1, c.with_bit-done.ensures.more (c.next_pending.ensures.pending _ c.in-Some.is).2)

pub loop-j-preserved : goal.loop-j-preserved
loop-j-preserved c =
    let v = c.args in
    let p = c.next_pending.ensures.pending _ c.in-Some.is in (
      c.open_place.auto.found ∙ c.loop-j.invariant.0,
      c.with_bit-done.ensures.fits c.loop-j.invariant.1,
      close_more v.question.now v.row
          v.count v.table.now v.found.now c.loop-j.found c.loop-j.done c.in-Some.j c.with_bit-done.result _
          c.requires.0 p.0 p.1 c.with_bit-done.ensures c.open_place.ensures c.loop-j.invariant.2,
    )

pub returns : goal.returns
returns c =
    let v = c.args in
    close_end v.question.now v.row v.count v.table.now v.found.now c.loop-j.found c.loop-j.done
    (c.next_pending.ensures.none c.in_default.is) c.loop-j.invariant.2

pub with_bit-done-requires : goal.with_bit-done-requires
with_bit-done-requires c = (c.next_pending.ensures.pending _ c.in-Some.is).0
