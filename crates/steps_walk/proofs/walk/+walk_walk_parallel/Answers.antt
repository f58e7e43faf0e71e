use Rattle.steps.specs.Limits.{most_steps}
use Rattle.steps_walk.specs.Walking.{walked_or}
use native.Mathlib.Omega.{arith}
use Rattle.terms.specs.Limits.{longest_term}
use Rattle.steps_tallies.specs.Tally.{silent_at}
use Rattle.steps_passing.proofs.TwoSides.{middle_on}
use Rattle.steps_walk.proofs.WalkLaws.{walk_none, walk_run, left_passed, right_passed, right_full, sides_met, walk_stopped}
use Prim.Native.Nat.{◌+◌}
use Rattle.steps_walk.proofs.walk.+walk_walk_parallel.Goals as goal

pub walk-overflow_add-place : goal.walk-overflow_add-place
walk-overflow_add-place t c =
    let i = c.restrictions_at-k.ensures.inside in
    let s = c.requires.0.1.0 in
    omega arith

pub walk-overflow_add-under : goal.walk-overflow_add-under
walk-overflow_add-under t c =
    let i = c.restrictions_at-k.ensures.inside in
    let s = c.requires.0.1.0 in
    let d = c.requires.1 in
    omega arith

pub walk-returns-then-part-place-clause-is : goal.walk-returns-then-part-place-clause-is
walk-returns-then-part-place-clause-is t c =
    let a = c.args in
    let k = c.restrictions_at-k.result in
    let R = c.restrictions_at-k.ensures in
    walk_run a.question.now a.part.now a.node.at a.node.depth a.node.number a.node.x a.rows.now a.walked.rows
    a.area.now a.walked.count _ _ _ k R.are (walk_none a.question.now a.part.now (a.node.at + k) (a.node.depth + k)
    a.node.number a.node.x a.rows.now a.walked.rows a.area.now a.walked.count c.if-part-place.true c.requires.3)

pub walk-walk_parallel-requires : goal.walk-walk_parallel-requires
walk-walk_parallel-requires t c =
    let i = c.restrictions_at-k.ensures.inside in
    let l = c.if-part-place.false in
    let d = c.requires.1 in
    let n = c.requires.2 in
    let e = c.decreases in
    (omega arith, (c.requires.0, (omega arith, omega arith), omega arith, c.requires.3, c.requires.4, c.if-part-place-eq-PARALLEL.true))

pub walk-returns-then-part-place-eq-PARALLEL-clause-is : goal.walk-returns-then-part-place-eq-PARALLEL-clause-is
walk-returns-then-part-place-eq-PARALLEL-clause-is t c =
    let a = c.args in
    let k = c.restrictions_at-k.result in
    let R = c.restrictions_at-k.ensures in
    walk_run a.question.now a.part.now a.node.at a.node.depth a.node.number a.node.x a.rows.now a.walked.rows
    a.area.now a.walked.count _ (walked_or a.walked.rows c.walk_parallel.result) _ k R.are c.walk_parallel.ensures.is

pub walk-component-requires : goal.walk-component-requires
walk-component-requires t c =
    let i = c.restrictions_at-k.ensures.inside in
    let l = c.if-part-place.false in
    let d = c.requires.1 in
    let n = c.requires.2 in (
      c.requires.0,
      (omega arith, omega arith),
      omega arith,
      c.requires.3,
      c.requires.4,
      c.if-part-place-eq-PARALLEL.false,
      c.restrictions_at-k.ensures.ended c.if-part-place.false,
    )

pub walk-returns-clause-is : goal.walk-returns-clause-is
walk-returns-clause-is t c =
    let a = c.args in
    let k = c.restrictions_at-k.result in
    let R = c.restrictions_at-k.ensures in
    walk_run a.question.now a.part.now a.node.at a.node.depth a.node.number a.node.x a.rows.now a.walked.rows
    a.area.now a.walked.count _ (walked_or a.walked.rows c.component.result) _ k R.are c.component.ensures.is

pub walk_parallel-overflow_add-next : goal.walk_parallel-overflow_add-next
walk_parallel-overflow_add-next t c =
    let s = c.requires.0.1.0 in
    let i = c.requires.1.1 in
    omega arith

pub walk_parallel-walk-requires : goal.walk_parallel-walk-requires
walk_parallel-walk-requires t c =
    let l = c.requires.1.1 in
    let t = c.decreases in
    let d = c.requires.1.0 in
    let k = c.requires.2 in
    (omega arith, (c.requires.0, omega arith, omega arith, c.requires.3, c.requires.4))

pub walk_parallel-returns-in_err-left-clause-is : goal.walk_parallel-returns-in_err-left-clause-is
walk_parallel-returns-in_err-left-clause-is t c =
    let v = c.args in
    rw c.from_residual.ensures (left_passed v.question.now v.part.now v.node.at v.node.depth v.node.number v.node.x v.rows.now v.walked.rows
    v.area.now v.walked.count c.requires.5 _ _ _ c.in_err-left.ensures.is (omega arith))

pub walk_parallel-overflow_add-further : goal.walk_parallel-overflow_add-further
unfolding silent_at
walk_parallel-overflow_add-further t c =
    let b = c.shared_slice_known-4-1.given (longest_term + (c.args.node.at + 1)) in
    let e = c.silent_at-before.ensures in
    let h = c.requires.2 in
    let s = c.requires.0.1.0 in
    let i = c.requires.1.1 in
    omega arith

pub walk_parallel-walk-requires-2 : goal.walk_parallel-walk-requires-2
unfolding silent_at
walk_parallel-walk-requires-2 t c =
    let v = c.args in
    let m = middle_on v.question.now v.part.now 1 v.tally.now c.requires.0.1.1 v.node.at c.middle_of-middle.result
    c.middle_of-middle.ensures c.requires.1.1 in
    let b = c.shared_slice_known-4-1.given (longest_term + (v.node.at + 1)) in
    let e = c.silent_at-before.ensures in
    let h = c.requires.2 in
    let s = c.requires.0.1.0 in
    let i = c.requires.1.1 in
    let t = c.decreases in
    let d = c.requires.1.0 in (
      omega arith,
      (
        ((c.in_ok-left.ensures.few, omega (arith, c.area-1.given, c.requires.0.0.1)), c.requires.0.1),
        omega arith,
        omega arith,
        c.in_ok-left.ensures.is.inside,
        omega (arith, c.rows-1.given, c.requires.4),
      ),
    )

pub walk_parallel-returns-in_err-right-clause-is : goal.walk_parallel-returns-in_err-right-clause-is
walk_parallel-returns-in_err-right-clause-is t c =
    let v = c.args in
    rw c.from_residual-in_err-right.ensures (walk_stopped v.question.now v.part.now v.node.at v.node.depth v.node.number v.node.x v.rows.now v.walked.rows _ v.area.now v.walked.count _ _ c.requires.3 (omega arith) (right_passed v.question.now v.part.now v.node.at v.node.depth v.node.number v.node.x v.rows.now v.walked.rows
    v.area.now v.walked.count
    c.requires.5
    _
    c.in_ok-left.left
    _
    c.in_ok-left.ensures.is
    c.in_ok-left.ensures.few v.tally.now
    c.requires.0.1.1
    c.middle_of-middle.result
    c.middle_of-middle.ensures
    c.silent_at-before.result
    c.silent_at-before.ensures _
    _ _ c.in_err-right.ensures.is
    (omega arith)))

pub walk_parallel-returns-then-right-gt-MOST_ROWS-clause-is : goal.walk_parallel-returns-then-right-gt-MOST_ROWS-clause-is
walk_parallel-returns-then-right-gt-MOST_ROWS-clause-is t c =
    let v = c.args in right_full v.question.now v.part.now v.node.at v.node.depth v.node.number v.node.x v.rows.now v.walked.rows
    v.area.now v.walked.count
    c.requires.5
    _
    c.in_ok-left.left
    _
    c.in_ok-left.ensures.is
    c.in_ok-left.ensures.few v.tally.now
    c.requires.0.1.1
    c.middle_of-middle.result
    c.middle_of-middle.ensures
    c.silent_at-before.result
    c.silent_at-before.ensures _
    c.in_ok-right.right _
    c.in_ok-right.ensures.is c.in_ok-right.ensures.few c.if-right-gt-MOST_ROWS.true

pub walk_parallel-overflow_add-silent : goal.walk_parallel-overflow_add-silent
unfolding silent_at
walk_parallel-overflow_add-silent t c =
    let b = c.shared_slice_known-4-1.given (longest_term + (c.args.node.at + 1)) in
    let e = c.silent_at-before.ensures in
    let h = c.requires.2 in
    let s = c.requires.0.1.0 in
    let i = c.requires.1.1 in
    let b2 = c.shared_slice_known-4-1.given (longest_term + c.middle_of-middle.result) in
    let e2 = c.silent_at.ensures in
    omega arith

pub walk_parallel-meet-requires : goal.walk_parallel-meet-requires
unfolding silent_at
walk_parallel-meet-requires t c =
    let b = c.shared_slice_known-4-1.given (longest_term + (c.args.node.at + 1)) in
    let e = c.silent_at-before.ensures in
    let h = c.requires.2 in
    let s = c.requires.0.1.0 in
    let i = c.requires.1.1 in
    let b2 = c.shared_slice_known-4-1.given (longest_term + c.middle_of-middle.result) in
    let e2 = c.silent_at.ensures in (
      ((c.in_ok-right.ensures.few, omega (arith, c.area-1.given, c.area-2-1.given, c.requires.0.0.1)), c.requires.0.1),
      c.requires.1,
      c.in_ok-left.ensures.is.on,
      c.in_ok-right.ensures.is.on,
      c.if-right-gt-MOST_ROWS.false,
      omega (arith, c.rows-1.given, c.rows-2-1.given, c.requires.4),
      omega arith,
    )

pub walk_parallel-returns-clause-is : goal.walk_parallel-returns-clause-is
walk_parallel-returns-clause-is t c =
    let v = c.args in sides_met v.question.now v.part.now v.node.at v.node.depth v.node.number v.node.x v.rows.now v.walked.rows
    v.area.now v.walked.count
    c.requires.5
    _
    c.in_ok-left.left
    _
    c.in_ok-left.ensures.is
    c.in_ok-left.ensures.few v.tally.now
    c.requires.0.1.1
    c.middle_of-middle.result
    c.middle_of-middle.ensures
    c.silent_at-before.result
    c.silent_at-before.ensures
    _ c.in_ok-right.right _
    c.in_ok-right.ensures.is c.in_ok-right.ensures.few
    c.silent_at.result c.silent_at.ensures
    c.in_ok-all.all _ c.in_ok-all.ensures.is

pub walk_parallel-returns-in_err-all-clause-is : goal.walk_parallel-returns-in_err-all-clause-is
walk_parallel-returns-in_err-all-clause-is t c =
    let v = c.args in
    rw c.from_residual-in_err-all.ensures (walk_stopped v.question.now v.part.now v.node.at v.node.depth v.node.number v.node.x v.rows.now v.walked.rows _ v.area.now v.walked.count _ _ c.requires.3 (omega arith) (sides_met v.question.now v.part.now v.node.at v.node.depth v.node.number v.node.x v.rows.now v.walked.rows
    v.area.now v.walked.count
    c.requires.5
    _
    c.in_ok-left.left
    _
    c.in_ok-left.ensures.is
    c.in_ok-left.ensures.few v.tally.now
    c.requires.0.1.1
    c.middle_of-middle.result
    c.middle_of-middle.ensures
    c.silent_at-before.result
    c.silent_at-before.ensures
    _ c.in_ok-right.right _
    c.in_ok-right.ensures.is c.in_ok-right.ensures.few
    c.silent_at.result c.silent_at.ensures
    (most_steps + 1) _ c.in_err-all.ensures.is))
