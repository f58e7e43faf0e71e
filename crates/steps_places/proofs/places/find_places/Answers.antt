use Rattle.steps_places.specs.PlaceWalks.{StartedIs}
use Rattle.steps_places.proofs.FindLaws.{Going, going_start, going_more, going_end}
use Rattle.steps_partitions.proofs.PartitionLaws.{way_at, some_way}
use mathlib.Core.Path.{sym, subst, ◌∙◌}
use Prim.Native.Nat.{◌<◌}
use native.Mathlib.Omega.{arith}
use Rattle.steps_places.proofs.places.find_places.Goals as goal

pub start-requires : goal.start-requires
start-requires c = (
  subst (λ k. 0 < k) (sym c.ways-rows.ensures) (some_way c.args.count 0),
  omega (
    arith,
    c.ways-rows.ensures,
    c.requires.1,
    (way_at
        c.args.count 0 (omega (arith, c.requires.0))).1,
  ),
)

pub loop-row-init : goal.loop-row-init
loop-row-init c =
    let v = c.args in (
      omega (arith, c.ways-rows.ensures),
      c.start.auto.found ∙ c.requires.1,
      subst (λ k. Going v.question.now v.count v.table.now k
          c.start.new.found) (sym c.ways-rows.ensures) (going_start v.question.now v.count v.table.now c.start.new.found (subst (StartedIs
          c.start.new.found) c.ways-rows.ensures c.start.ensures)),
    )

pub close_row-requires : goal.close_row-requires
close_row-requires c =
    (omega (arith, c.loop-row.invariant.0, c.loop-row-test.true), c.requires.0, c.loop-row.invariant.1, c.requires.2)

pub loop-row-preserved : goal.loop-row-preserved
loop-row-preserved c =
    let v = c.args in (
      omega (arith, c.loop-row.invariant.0),
      c.close_row.auto.found ∙ c.loop-row.invariant.1,
      going_more v.question.now v.count
          v.table.now c.loop-row.row c.loop-row.found _ c.loop-row-test.true c.close_row.ensures c.loop-row.invariant.2,
    )

pub returns : goal.returns
returns c =
    let v = c.args in
    going_end v.question.now v.count v.table.now c.loop-row.row c.loop-row.found c.loop-row-test.false c.loop-row.invariant.2
