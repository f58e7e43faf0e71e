use mathlib.Core.Path.{refl, ◌∙◌}
use native.Mathlib.Omega.{arith}
use lib.ListN.{length-set}
use Rattle.steps_splicing.proofs.MergingLaws.{merging-none, merging_start, merging_done, merging-name, merging-front}
use Rattle.steps_splicing.proofs.merged.merge_names.Goals as goal

pub returns-then-bytes-n : goal.returns-then-bytes-n
returns-then-bytes-n c =
    let v = c.args in
    merging-none v.bytes.now v.n v.arities.now v.class.now c.if-bytes-n.true

pub loop-at-init : goal.loop-at-init
loop-at-init c = (refl, c.if-bytes-n.false, omega arith, merging_start _ _ _ _)

pub shape_at-h-requires : goal.shape_at-h-requires
shape_at-h-requires c =
    omega (arith, c.loop-at.invariant.0, c.loop-at.invariant.1, c.loop-at-test.true)

pub overflow_add-at : goal.overflow_add-at
overflow_add-at c =
    omega (arith, c.loop-at-test.true, c.loop-at.invariant.1, c.shape_at-h.ensures.few, c.well_formed, c.ranges)

pub loop-at-smaller-then-names-eq0 : goal.loop-at-smaller-then-names-eq0
loop-at-smaller-then-names-eq0 c = omega (arith, c.loop-at-test.true, c.shape_at-h.ensures.some)

pub loop-at-preserved-then-names-eq0 : goal.loop-at-preserved-then-names-eq0
loop-at-preserved-then-names-eq0 c =
    let v = c.args in (
      c.loop-at.invariant.0,
      c.loop-at.invariant.1,
      omega (arith, c.shape_at-h.ensures.few),
      merging-front v.bytes.now v.n v.arities.now
          v.class.now c.loop-at.bytes c.loop-at.at c.loop-at.names c.loop-at.invariant.3 c.loop-at-test.true c.if-names-eq0.true
          c.shape_at-h.result c.shape_at-h.ensures,
    )

pub bounds-bytes-at : goal.bounds-bytes-at
bounds-bytes-at c =
    omega (arith, c.loop-at.invariant.0, c.loop-at.invariant.1, c.loop-at-test.true)

pub bounds-bytes-at-else-names-eq0 : goal.bounds-bytes-at-else-names-eq0
bounds-bytes-at-else-names-eq0 c =
    omega (arith, c.loop-at.invariant.0, c.loop-at.invariant.1, c.loop-at-test.true)

pub overflow_sub-names : goal.overflow_sub-names
overflow_sub-names c = omega (arith, c.if-names-eq0.false)

pub loop-at-preserved : goal.loop-at-preserved
loop-at-preserved c =
    let v = c.args in (
      length-set c.loop-at.bytes _ _ ∙ c.loop-at.invariant.0,
      c.loop-at.invariant.1,
      omega (arith, c.loop-at.invariant.2),
      merging-name v.bytes.now v.n
          v.arities.now v.class.now c.loop-at.bytes c.loop-at.at c.loop-at.names c.loop-at.invariant.3 c.if-names-eq0.false _ _
          c.merged_byte-b.ensures refl,
    )

pub returns : goal.returns
returns c =
    let v = c.args in
    merging_done v.bytes.now v.n v.arities.now v.class.now c.loop-at.bytes c.loop-at.at c.loop-at.names c.loop-at.invariant.3
    c.loop-at-test.false
