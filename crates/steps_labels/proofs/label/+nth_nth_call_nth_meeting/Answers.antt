use Rattle.steps_tallies.proofs.TallyLoops.{called_tally}
use mathlib.Core.Path.{◌≡◌, refl, sym, ap, ◌∙◌}
use Prim.Native.Nat.{◌+◌, ◌*◌, ◌≤◌}
use native.Mathlib.Omega.{arith}
use lib.ListN.{length, get_or}
use Rattle.terms.specs.Limits.{longest_term}
use Rattle.steps_labels.specs.LabelWalk.{Leads}
use Rattle.steps_labels.proofs.LabelWalks.{weight_on, weight_down, weight_body, room_on, room_under, room_body, nth_none, nth_prefix, nth_closed, nth_cut, nth_called, meet-none, meet-both}
use Rattle.steps_labels.proofs.RestrictionRuns.{past-some, past_most, past_over}
use Rattle.steps_labels.proofs.label.+nth_nth_call_nth_meeting.Goals as goal

pub nth-origin_of-p-requires : goal.nth-origin_of-p-requires
nth-origin_of-p-requires t c = (c.requires.0.short, c.requires.1.on)

pub nth-nth_meeting-requires : goal.nth-nth_meeting-requires
nth-nth_meeting-requires t c =
    let a = c.args in
    let p = c.origin_of-p.result in
    let S = c.origin_of-p.ensures in
    let i = S.inside _ c.in-Some.is in (
      weight_down (a.scope.calls * 113) (length a.src.now) a.scope.at p.at t 1 c.decreases S.on (omega arith),
      (
        i.0,
        i.1,
        (room_on
            a.src.now a.scope.at p.at a.scope.inner a.scope.depth a.scope.calls c.requires.0 S.on),
        c.requires.1,
        c.requires.2,
      ),
    )

pub nth-returns-in-Some : goal.nth-returns-in-Some
nth-returns-in-Some t c =
    let a = c.args in
    c.origin_of-p.ensures.met _ c.in-Some.is a.question.now a.args.now a.scope.inner a.scope.depth
    a.scope.calls _ c.requires.1 c.nth_meeting.ensures

pub nth-returns-then-src-b : goal.nth-returns-then-src-b
unfolding Leads
nth-returns-then-src-b t c =
    let a = c.args in
    let p = c.origin_of-p.result in
    let S = c.origin_of-p.ensures in
    S.is c.in_default.is a.question.now a.args.now a.scope.inner a.scope.depth a.scope.calls _
    c.requires.1 (nth_none a.question.now a.src.now p.at p.number a.silent a.args.now a.scope.inner a.scope.depth
    a.scope.calls _ c.if-src-b.true)

pub nth-nth_prefix-requires : goal.nth-nth_prefix-requires
nth-nth_prefix-requires t c =
    let w = c.requires.0.room in
    (c.if-src-b.false, c.requires.0.outer, omega arith)

pub nth-returns-then-t-lt-MATCH : goal.nth-returns-then-t-lt-MATCH
unfolding Leads
nth-returns-then-t-lt-MATCH t c =
    let a = c.args in
    let p = c.origin_of-p.result in
    let S = c.origin_of-p.ensures in
    S.is c.in_default.is a.question.now a.args.now a.scope.inner a.scope.depth a.scope.calls _ c.requires.1
    (nth_prefix a.question.now a.src.now p.at p.number a.silent a.args.now a.scope.inner a.scope.depth a.scope.calls
    c.if-t-lt-MATCH.true _ c.nth_prefix.ensures)

pub nth-nth_call-requires : goal.nth-nth_call-requires
nth-nth_call-requires t c =
    let a = c.args in
    let p = c.origin_of-p.result in
    let S = c.origin_of-p.ensures in (
      weight_down (a.scope.calls * 113) (length a.src.now) a.scope.at p.at t 2 c.decreases S.on (omega arith),
      (
        c.if-src-b.false,
        c.if-t-gt-RESTRICTION.true,
        (room_on a.src.now a.scope.at p.at a.scope.inner a.scope.depth a.scope.calls c.requires.0 S.on),
        c.requires.2,
      ),
    )

pub nth-returns-then-t-gt-RESTRICTION : goal.nth-returns-then-t-gt-RESTRICTION
unfolding Leads
nth-returns-then-t-gt-RESTRICTION t c =
    let a = c.args in
    let p = c.origin_of-p.result in
    let S = c.origin_of-p.ensures in
    S.is c.in_default.is a.question.now a.args.now a.scope.inner a.scope.depth a.scope.calls _ c.requires.1
    c.nth_call.ensures

pub nth-overflow_add-next : goal.nth-overflow_add-next
nth-overflow_add-next t c =
    let w = c.requires.0.short in
    let b = c.origin_of-p.result.at in
    omega (
      arith,
      c.restrictions_at-k.ensures.inside,
      c.if-src-b.false,
      c.past.ensures,
      past_most (get_or c.args.src.now b 0)
          c.restrictions_at-k.result,
    )

pub nth-overflow_add-innermost : goal.nth-overflow_add-innermost
nth-overflow_add-innermost t c =
    let w = c.requires.0.room in
    let o = c.requires.0.outer in
    omega (arith, c.restrictions_at-k.ensures.inside, c.if-src-b.false, c.origin_of-p.ensures.on)

pub nth-overflow_add-deeper : goal.nth-overflow_add-deeper
nth-overflow_add-deeper t c =
    let w = c.requires.0.room in
    omega (arith, c.restrictions_at-k.ensures.inside, c.if-src-b.false, c.origin_of-p.ensures.on)

pub nth-nth-label-requires : goal.nth-nth-label-requires
nth-nth-label-requires t c =
    let a = c.args in
    let p = c.origin_of-p.result in
    let S = c.origin_of-p.ensures in
    let k = c.restrictions_at-k.result in
    let n = c.past.result in
    let R = c.restrictions_at-k.ensures in
    let h = c.if-src-b.false in
    let z : n ≡ 0 → ⊥ = λ e. past-some a.src.now p.at k R c.if-src-b.false c.if-t-lt-MATCH.false c.if-t-gt-RESTRICTION.false (S.one c.in_default.is c.if-src-b.false) (sym c.past.ensures ∙ e) in (
      weight_on (a.scope.calls * 113) (length a.src.now) a.scope.at (p.at + n) t 3 c.decreases (omega (arith, S.on)) (omega (
        arith,
        S.on,
      )),
      (
        room_under a.src.now p.at a.scope.inner a.scope.depth a.scope.calls k n (room_on a.src.now a.scope.at
            p.at a.scope.inner a.scope.depth a.scope.calls c.requires.0 S.on) h R.inside (omega (
              arith,
              past_over a.src.now
                  p.at k R,
              c.past.ensures,
            )),
        c.requires.1,
        c.requires.2,
      ),
    )

pub nth-outside_of-requires : goal.nth-outside_of-requires
nth-outside_of-requires t c =
    let w = c.requires.0.room in (
      c.requires.0.outer,
      c.if-src-b.false,
      omega (
        arith,
        c.restrictions_at-k.ensures.inside,
        c.if-src-b.false,
        c.origin_of-p.ensures.on,
      ),
    )

pub nth-returns : goal.nth-returns
unfolding Leads
nth-returns t c =
    let a = c.args in
    let p = c.origin_of-p.result in
    let S = c.origin_of-p.ensures in
    let k = c.restrictions_at-k.result in
    let R = c.restrictions_at-k.ensures in
    S.is c.in_default.is a.question.now a.args.now a.scope.inner a.scope.depth a.scope.calls _ c.requires.1
    (c.outside_of.ensures.is a.question.now p.number a.silent a.scope.calls (past-some a.src.now p.at k R c.if-src-b.false
    c.if-t-lt-MATCH.false c.if-t-gt-RESTRICTION.false (S.one c.in_default.is c.if-src-b.false)) R.are (rw c.past.ensures at
    c.nth-label.ensures))

pub nth_call-returns-in_default : goal.nth_call-returns-in_default
nth_call-returns-in_default t c =
    let a = c.args in
    nth_closed a.question.now a.src.now a.scope.at a.i a.silent a.args.now a.scope.inner a.scope.depth a.scope.calls
    c.requires.1 ((c.call_at.ensures.err _ c.in_default.is).1) _

pub nth_call-returns-then-src-o : goal.nth_call-returns-then-src-o
nth_call-returns-then-src-o t c =
    let a = c.args in
    nth_cut a.question.now a.src.now a.scope.at a.i a.silent a.args.now a.scope.inner a.scope.depth a.scope.calls
    c.requires.1 c.in-Ok.o (c.call_at.ensures.ok _ c.in-Ok.is) _ c.if-src-o.true

pub nth_call-arguments-given-requires : goal.nth_call-arguments-given-requires
nth_call-arguments-given-requires t c =
    let m = (c.call_at.ensures.ok _ c.in-Ok.is).may in
    let w = c.requires.2.room in
    (omega (arith, c.if-src-o.false, (c.call_at.ensures.ok _ c.in-Ok.is).called.end), m.1, c.requires.2.outer, omega arith)

pub nth_call-body_tally-within-requires : goal.nth_call-body_tally-within-requires
nth_call-body_tally-within-requires t c =
    (((c.call_at.ensures.ok _ c.in-Ok.is).may).3, c.requires.3.size)

pub nth_call-overflow_sub-left : goal.nth_call-overflow_sub-left
nth_call-overflow_sub-left t c =
    let m = (c.call_at.ensures.ok _ c.in-Ok.is).may in
    omega (arith, m)

pub nth_call-nth-requires : goal.nth_call-nth-requires
nth_call-nth-requires t c =
    let a = c.args in
    let m = (c.call_at.ensures.ok _ c.in-Ok.is).may in
    let b : length c.body_at-body.result.now ≤ longest_term = omega (
      arith,
      m,
      ap length (c.body_at-body.ensures c.in-Ok.o.definition
          (c.call_at.ensures.ok _ c.in-Ok.is).called.place).piece,
    ) in (
      weight_body a.scope.calls (length a.src.now) a.scope.at (length c.body_at-body.result.now) t 2 c.decreases m.0 b,
      (
        room_body
            a.src.now a.scope.at a.scope.inner a.scope.depth a.scope.calls c.body_at-body.result.now c.requires.2 m.0 b,
        called_tally a.question.now a.bodies.now a.src.now a.scope.at a.scope.calls c.requires.3 c.in-Ok.o
            (c.call_at.ensures.ok _ c.in-Ok.is) c.requires.2.once c.body_at-body.result.now (c.body_at-body.ensures
            c.in-Ok.o.definition (c.call_at.ensures.ok _ c.in-Ok.is).called.place) c.body_tally-within.result.now c.body_tally-within.ensures _ refl,
        c.requires.3,
      ),
    )

pub nth_call-returns : goal.nth_call-returns
nth_call-returns t c =
    let a = c.args in
    let m = (c.call_at.ensures.ok _ c.in-Ok.is).may in
    nth_called a.question.now a.src.now a.scope.at a.i a.silent a.args.now a.scope.inner a.scope.depth a.scope.calls
    c.requires.1 c.in-Ok.o (c.call_at.ensures.ok _ c.in-Ok.is) _ m.0 c.requires.2.once c.body_at-body.result.now (c.body_at-body.ensures
    c.in-Ok.o.definition (c.call_at.ensures.ok _ c.in-Ok.is).called.place) c.arguments-given.result c.arguments-given.ensures c.nth.ensures

pub nth_meeting-returns-then-n-eq0 : goal.nth_meeting-returns-then-n-eq0
nth_meeting-returns-then-n-eq0 t c =
    let a = c.args in
    meet-none a.question.now a.src.now a.scope.at a.middle a.i a.args.now a.scope.inner a.scope.depth a.scope.calls
    a.tally.now c.requires.3 _ c.visible_at-n.result c.visible_at-n.ensures c.if-n-eq0.true

pub nth_meeting-nth-p-requires : goal.nth_meeting-nth-p-requires
nth_meeting-nth-p-requires t c =
    let a = c.args in (
      weight_on (a.scope.calls * 113) (length a.src.now) a.scope.at (a.scope.at + 1) t 1 c.decreases (omega arith) c.requires.0,
      (
        room_on a.src.now a.scope.at (a.scope.at + 1) a.scope.inner a.scope.depth a.scope.calls c.requires.2 (omega arith),
        c.requires.3,
        c.requires.4,
      ),
    )

pub nth_meeting-nth-q-requires : goal.nth_meeting-nth-q-requires
nth_meeting-nth-q-requires t c =
    let a = c.args in (
      weight_on (a.scope.calls * 113) (length a.src.now) a.scope.at a.middle t 1 c.decreases c.requires.1 c.requires.0,
      (
        room_on
            a.src.now a.scope.at a.middle a.scope.inner a.scope.depth a.scope.calls c.requires.2 (omega (arith, c.requires.1)),
        c.requires.3,
        c.requires.4,
      ),
    )

pub nth_meeting-returns : goal.nth_meeting-returns
nth_meeting-returns t c =
    let a = c.args in
    meet-both a.question.now a.src.now a.scope.at a.middle a.i a.args.now a.scope.inner a.scope.depth a.scope.calls
    a.tally.now c.requires.3 _ c.visible_at-n.result c.visible_at-n.ensures c.if-n-eq0.false (let w = c.requires.2.room in omega
    arith) c.nth-p.result c.nth-q.result c.nth-p.ensures c.nth-q.ensures c.communication.ensures
