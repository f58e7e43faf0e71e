use mathlib.Core.Path.{refl, sym, ap, subst, ◌∙◌}
use native.Mathlib.Omega.{arith}
use lib.ListN.{length}
use borrow.Author.Rules.{rules}
use borrow.Author.Tests.{not-true, not-false}
use Rattle.terms.specs.Limits.{longest_term}
use Rattle.steps_labels.proofs.LabelWalks.{weight_on, weight_part, weight_body, room_on, room_under, room_body}
use Rattle.steps_tallies.proofs.TallyLoops.{called_tally}
use Rattle.steps_passing.proofs.TwoSides.{middle_on}
use Rattle.steps_equal_branches.proofs.Below.{ends_tallied}
use Prim.Native.Nat.{◌+◌, ◌*◌, ◌≤◌}
use Rattle.steps_equal_branches.specs.BranchRows.{RepeatedIs}
use Rattle.steps_rows.proofs.RowWalks.{scan_none, scan_idle, scan_again, scan_trivial, scan_prefix, scan_mat, scan_res, scan_two, scan_closed, scan_cut, scan_called}
use Rattle.steps_rows.proofs.rows.+scan_scan_call.Goals as goal

pub scan-returns-then-src-at : goal.scan-returns-then-src-at
scan-returns-then-src-at t c =
    let a = c.args in
    scan_none a.question.now a.src.now a.branch.root a.scope.at a.branch.asked a.args.now a.scope.inner a.scope.depth
    a.scope.calls a.branch.row a.rows.now c.requires.3.0 c.if-src-at.true

pub scan-returns-then-t-lt-INPUT : goal.scan-returns-then-t-lt-INPUT
scan-returns-then-t-lt-INPUT t c =
    let a = c.args in
    scan_idle a.question.now a.src.now a.branch.root a.scope.at a.branch.asked a.args.now a.scope.inner a.scope.depth
    a.scope.calls a.branch.row a.rows.now c.requires.3.0 c.if-t-lt-INPUT.true

pub scan-is_trivial-requires : goal.scan-is_trivial-requires
scan-is_trivial-requires t c =
    let w = c.requires.0.room in
    (c.if-src-at.false, c.requires.0.outer, omega arith)

pub scan-overflow_add-next : goal.scan-overflow_add-next
scan-overflow_add-next t c =
    let w = c.requires.0.short in
    omega (arith, c.if-src-at.false)

pub scan-scan-requires : goal.scan-scan-requires
scan-scan-requires t c =
    let a = c.args in (
      weight_on (a.scope.calls * 113) (length a.src.now) a.scope.at (a.scope.at + 3) t 3 c.decreases (omega arith) c.if-src-at.false,
      (
        room_on
            a.src.now a.scope.at (a.scope.at + 3) a.scope.inner a.scope.depth a.scope.calls c.requires.0 (omega arith),
        c.requires.1,
        c.requires.2,
        c.requires.3,
      ),
    )

pub scan-returns-then-is_trivial : goal.scan-returns-then-is_trivial
scan-returns-then-is_trivial t c =
    let a = c.args in
    scan_trivial a.question.now a.src.now a.branch.root a.scope.at a.branch.asked a.args.now a.scope.inner
    a.scope.depth a.scope.calls a.branch.row a.rows.now (sym c.is_trivial.ensures ∙ c.if-is_trivial.true) c.behind_root.result c.behind_root.ensures _ _
    c.scan.ensures

pub scan-adds_nothing-requires : goal.scan-adds_nothing-requires
scan-adds_nothing-requires t c =
    let w = c.requires.0.room in
    (c.if-src-at.false, c.requires.1.on, c.requires.0.outer, omega arith)

pub scan-put_repeated-requires : goal.scan-put_repeated-requires
scan-put_repeated-requires t c =
    c.requires.3

pub scan-returns-then-adds_nothing : goal.scan-returns-then-adds_nothing
scan-returns-then-adds_nothing t c =
    let a = c.args in
    scan_again a.question.now a.src.now a.branch.root a.scope.at a.branch.asked a.args.now a.scope.inner a.scope.depth
    a.scope.calls a.branch.row a.rows.now c.if-t-ne-CHOICE.true (sym c.is_trivial.ensures ∙ c.if-is_trivial.false) a.tally.now c.requires.1
    (subst (RepeatedIs a.question.now a.src.now a.args.now a.scope.inner a.scope.depth a.branch.root a.scope.at)
    c.if-adds_nothing.true (c.adds_nothing.ensures (ends_tallied a.question.now a.src.now a.scope.calls a.tally.now c.requires.1)))
    c.visible_at.result c.visible_at.ensures _ _ c.put_repeated.ensures

pub scan-scan_prefix-requires : goal.scan-scan_prefix-requires
scan-scan_prefix-requires t c =
    let a = c.args in
    let w = c.requires.0.room in
    (c.if-src-at.false, omega (arith, c.if-t-lt-INPUT.false), c.if-t-lt-MATCH.true, c.requires.0.outer, omega arith, c.requires.3)

pub scan-returns-then-t-lt-MATCH : goal.scan-returns-then-t-lt-MATCH
scan-returns-then-t-lt-MATCH t c =
    let a = c.args in
    scan_prefix a.question.now a.src.now a.branch.root a.scope.at a.branch.asked a.args.now a.scope.inner
    a.scope.depth a.scope.calls a.branch.row a.rows.now (omega (arith, c.if-t-lt-INPUT.false)) c.if-t-lt-MATCH.true _ _
    c.scan_prefix.ensures

pub scan-overflow_add-matched : goal.scan-overflow_add-matched
scan-overflow_add-matched t c =
    let w = c.requires.0.short in
    omega (arith, c.if-src-at.false)

pub scan-scan-requires-then-t-eq-MATCH : goal.scan-scan-requires-then-t-eq-MATCH
scan-scan-requires-then-t-eq-MATCH t c =
    let a = c.args in (
      weight_on (a.scope.calls * 113) (length a.src.now) a.scope.at (a.scope.at + 3) t 3 c.decreases (omega arith) c.if-src-at.false,
      (
        room_on
            a.src.now a.scope.at (a.scope.at + 3) a.scope.inner a.scope.depth a.scope.calls c.requires.0 (omega arith),
        c.requires.1,
        c.requires.2,
        c.requires.3,
      ),
    )

pub scan-returns-then-t-eq-MATCH : goal.scan-returns-then-t-eq-MATCH
scan-returns-then-t-eq-MATCH t c =
    let a = c.args in
    scan_mat a.question.now a.src.now a.branch.root a.scope.at a.branch.asked a.args.now a.scope.inner a.scope.depth
    a.scope.calls a.branch.row a.rows.now c.if-t-eq-MATCH.true _ _ c.scan-then-t-eq-MATCH.ensures

pub scan-overflow_add-bound : goal.scan-overflow_add-bound
scan-overflow_add-bound t c =
    let w = c.requires.0.short in
    omega (arith, c.if-src-at.false)

pub scan-overflow_add-innermost : goal.scan-overflow_add-innermost
scan-overflow_add-innermost t c =
    let w = c.requires.0.room in
    let o = c.requires.0.outer in
    omega (arith, c.if-src-at.false)

pub scan-overflow_add-deeper : goal.scan-overflow_add-deeper
scan-overflow_add-deeper t c =
    let w = c.requires.0.room in
    omega (arith, c.if-src-at.false)

pub scan-scan-requires-then-t-eq-RESTRICTION : goal.scan-scan-requires-then-t-eq-RESTRICTION
scan-scan-requires-then-t-eq-RESTRICTION t c =
    let a = c.args in (
      weight_on (a.scope.calls * 113) (length a.src.now) a.scope.at (a.scope.at + 1) t 3 c.decreases (omega arith) c.if-src-at.false,
      (
        room_under a.src.now a.scope.at a.scope.inner a.scope.depth a.scope.calls 1 1 c.requires.0 c.if-src-at.false (omega (
          arith,
          c.if-src-at.false,
        )) (omega arith),
        c.requires.1,
        c.requires.2,
        c.requires.3,
      ),
    )

pub scan-returns-then-t-eq-RESTRICTION : goal.scan-returns-then-t-eq-RESTRICTION
scan-returns-then-t-eq-RESTRICTION t c =
    let a = c.args in
    scan_res a.question.now a.src.now a.branch.root a.scope.at a.branch.asked a.args.now a.scope.inner a.scope.depth
    a.scope.calls a.branch.row a.rows.now c.if-t-eq-RESTRICTION.true _ _ c.scan-then-t-eq-RESTRICTION.ensures

pub scan-scan_call-requires : goal.scan-scan_call-requires
scan-scan_call-requires t c =
    let a = c.args in (
      weight_part (a.scope.calls * 113) (length a.src.now) a.scope.at t 2 c.decreases,
      (
        c.if-src-at.false,
        c.if-t-gt-RESTRICTION.true,
        c.requires.0,
        c.requires.2,
        c.requires.3,
      ),
    )

pub scan-returns-then-t-gt-RESTRICTION : goal.scan-returns-then-t-gt-RESTRICTION
scan-returns-then-t-gt-RESTRICTION t c = c.scan_call.ensures

pub scan-middle_of-middle-requires : goal.scan-middle_of-middle-requires
scan-middle_of-middle-requires t c =
    (c.if-src-at.false, c.requires.0.short)

pub scan-overflow_add-first : goal.scan-overflow_add-first
scan-overflow_add-first t c =
    let w = c.requires.0.short in
    omega (arith, c.if-src-at.false)

pub scan-scan-m-requires : goal.scan-scan-m-requires
scan-scan-m-requires t c =
    let a = c.args in (
      weight_on (a.scope.calls * 113) (length a.src.now) a.scope.at (a.scope.at + 1) t 3 c.decreases (omega arith) c.if-src-at.false,
      (
        room_on
            a.src.now a.scope.at (a.scope.at + 1) a.scope.inner a.scope.depth a.scope.calls c.requires.0 (omega arith),
        c.requires.1,
        c.requires.2,
        c.requires.3,
      ),
    )

pub scan-scan-requires-2 : goal.scan-scan-requires-2
scan-scan-requires-2 t c =
    let a =
    c.args
    in let p =
    c.requires
    in let on = middle_on a.question.now a.src.now a.scope.calls a.tally.now p.1 a.scope.at
    c.middle_of-middle.result
    c.middle_of-middle.ensures
    c.if-src-at.false
    in (
      weight_on (a.scope.calls * 113) (length a.src.now) a.scope.at c.middle_of-middle.result t 3
          c.decreases (on)
          c.if-src-at.false,
      (
        room_on a.src.now a.scope.at c.middle_of-middle.result a.scope.inner a.scope.depth a.scope.calls
            p.0 (omega arith),
        p.1,
        p.2,
        (c.scan-m.ensures.inside, search rules),
      ),
    )

pub scan-returns : goal.scan-returns
scan-returns t c =
    let a = c.args in
    scan_two a.question.now a.src.now a.branch.root a.scope.at a.branch.asked a.args.now a.scope.inner a.scope.depth
    a.scope.calls a.branch.row a.rows.now (omega (arith, c.if-t-lt-MATCH.false, c.if-t-eq-MATCH.false)) (omega (arith, c.if-t-eq-RESTRICTION.false, c.if-t-gt-RESTRICTION.false))
    a.tally.now c.requires.1 c.middle_of-middle.result c.middle_of-middle.ensures c.behind_root-begins.result c.behind_root-begins.ensures c.root_of-left_root.result c.root_of-left_root.ensures c.root_of-right_root.result
    c.root_of-right_root.ensures _ _ c.scan-m.ensures _ _ c.scan-2.ensures

pub scan_call-returns-in_default : goal.scan_call-returns-in_default
scan_call-returns-in_default t c =
    let a = c.args in scan_closed a.question.now a.src.now a.branch.root a.scope.at a.branch.asked a.args.now
    a.scope.inner a.scope.depth a.scope.calls a.branch.row a.rows.now c.requires.1 ((c.call_at.ensures.err _ c.in_default.is).1)
    c.requires.4.0

pub scan_call-returns-then-src-o : goal.scan_call-returns-then-src-o
scan_call-returns-then-src-o t c =
    let a = c.args in scan_cut a.question.now a.src.now a.branch.root a.scope.at a.branch.asked a.args.now
    a.scope.inner a.scope.depth a.scope.calls a.branch.row a.rows.now c.requires.1 c.in-Ok.o (c.call_at.ensures.ok _ c.in-Ok.is)
    c.requires.4.0 c.if-src-o.true

pub scan_call-arguments-given-requires : goal.scan_call-arguments-given-requires
scan_call-arguments-given-requires t c =
    let a = c.args in
    let m = (c.call_at.ensures.ok _ c.in-Ok.is).may in
    let w = c.requires.2.room in
    (omega (arith, c.if-src-o.false, (c.call_at.ensures.ok _ c.in-Ok.is).called.end), m.1, c.requires.2.outer, omega arith)

pub scan_call-body_tally-within-requires : goal.scan_call-body_tally-within-requires
scan_call-body_tally-within-requires t c =
    let m = (c.call_at.ensures.ok _ c.in-Ok.is).may in
    (m.3, c.requires.3.size)

pub scan_call-overflow_sub-left : goal.scan_call-overflow_sub-left
scan_call-overflow_sub-left t c =
    let m = (c.call_at.ensures.ok _ c.in-Ok.is).may in
    omega (arith, m)

pub scan_call-scan-requires : goal.scan_call-scan-requires
scan_call-scan-requires t c =
    let a = c.args in
    let m = (c.call_at.ensures.ok _ c.in-Ok.is).may in
    let b : length c.body_at-body.result.now ≤ longest_term = omega (
      arith,
      m,
      ap length (c.body_at-body.ensures c.in-Ok.o.definition
          (c.call_at.ensures.ok _ c.in-Ok.is).called.place).piece,
    ) in (
      weight_body a.scope.calls (length a.src.now) a.scope.at (length c.body_at-body.result.now) t 2 c.decreases m.0 b,
      (
        room_body
            a.src.now a.scope.at a.scope.inner a.scope.depth a.scope.calls c.body_at-body.result.now c.requires.2 m.0 b,
        called_tally
            a.question.now a.bodies.now a.src.now a.scope.at a.scope.calls c.requires.3 c.in-Ok.o (c.call_at.ensures.ok _ c.in-Ok.is) c.requires.2.once c.body_at-body.result.now (c.body_at-body.ensures c.in-Ok.o.definition
            (c.call_at.ensures.ok _ c.in-Ok.is).called.place) c.body_tally-within.result.now c.body_tally-within.ensures _ refl,
        c.requires.3,
        c.requires.4,
      ),
    )

pub scan_call-returns : goal.scan_call-returns
scan_call-returns t c =
    let a = c.args in let m = (c.call_at.ensures.ok _ c.in-Ok.is).may in scan_called
    a.question.now a.src.now a.branch.root a.scope.at a.branch.asked a.args.now a.scope.inner a.scope.depth a.scope.calls
    a.branch.row a.rows.now c.requires.1 c.in-Ok.o (c.call_at.ensures.ok _ c.in-Ok.is) m.0 c.requires.2.once c.body_at-body.result.now (c.body_at-body.ensures
    c.in-Ok.o.definition (c.call_at.ensures.ok _ c.in-Ok.is).called.place) c.arguments-given.result c.arguments-given.ensures _ _
    c.scan.ensures
