use mathlib.Core.Path.{◌≡◌, refl, ap, subst, ◌∙◌}
use Prim.Native.Nat.{◌+◌}
use native.Mathlib.Omega.{arith}
use lib.ListN.{length, get_or}
use borrow.Author.Rules.{rules}
use Rattle.steps_reach.specs.CallTable.{ListedIs}
use Rattle.steps_reach.proofs.CallWalks.{reach_closed, reach_listed, reach_full, reach_opened}
use Rattle.steps_reach.proofs.WalkLaws.{reach_past, reach_other, reach_short, reach_mat, reach_left, reach_both}
use Rattle.steps_tallies.proofs.TallyLoops.{called_tally}
use Rattle.steps_reach.proofs.reach.+open_call_reach_term.Goals as goal

pub open_call-call_at-requires : goal.open_call-call_at-requires
open_call-call_at-requires t c = (c.requires.0, c.requires.6)

pub open_call-returns-in_default : goal.open_call-returns-in_default
open_call-returns-in_default t c =
    let a = c.args in
    reach_closed a.question.now a.src.now a.at a.row a.table.now a.size (get_or a.src.now (a.at + 1) 0)
    refl c.requires.1 c.requires.4 (λ q ok l. let z = (c.call_at.ensures.err _ c.in_default.is).1 q ok l in omega arith)

pub open_call-called_names-names-requires : goal.open_call-called_names-names-requires
open_call-called_names-names-requires t c = (
  omega (arith, c.requires.0, c.requires.2),
  ((c.call_at.ensures.ok _ c.in-Ok.is).may).1,
  omega (
    arith,
    c.requires.3,
    c.requires.4,
  ),
)

pub open_call-is_listed-requires : goal.open_call-is_listed-requires
open_call-is_listed-requires t c =
    (c.requires.4, ((c.call_at.ensures.ok _ c.in-Ok.is).may).1)

pub open_call-returns-then-is_listed : goal.open_call-returns-then-is_listed
open_call-returns-then-is_listed t c =
    let a = c.args in
    reach_listed a.question.now a.src.now a.at a.row a.table.now a.size c.in-Ok.o.definition
    (c.call_at.ensures.ok _ c.in-Ok.is).called.definition c.in-Ok.o.arity c.called_names-names.result (λ q ok. (c.call_at.ensures.ok _ c.in-Ok.is).called.arity q ok)
    c.called_names-names.ensures c.requires.1 c.requires.4 (subst (ListedIs a.table.now a.size c.in-Ok.o.definition
    c.called_names-names.result c.in-Ok.o.arity) c.if-is_listed.true c.is_listed.ensures)

pub open_call-returns-then-size-ge-MOST_CALLS : goal.open_call-returns-then-size-ge-MOST_CALLS
open_call-returns-then-size-ge-MOST_CALLS t c =
    let a = c.args in
    reach_full a.question.now a.src.now a.at a.row a.table.now a.size c.in-Ok.o.definition
    (c.call_at.ensures.ok _ c.in-Ok.is).called.definition c.in-Ok.o.arity c.called_names-names.result (λ q ok. (c.call_at.ensures.ok _ c.in-Ok.is).called.arity q ok)
    c.called_names-names.ensures c.requires.1 c.requires.4 (subst (ListedIs a.table.now a.size c.in-Ok.o.definition
    c.called_names-names.result c.in-Ok.o.arity) c.if-is_listed.false c.is_listed.ensures) c.if-size-ge-MOST_CALLS.true

pub open_call-overflow_cast-k : goal.open_call-overflow_cast-k
open_call-overflow_cast-k t c =
    let m = (c.call_at.ensures.ok _ c.in-Ok.is).may in
    omega (arith, m)

pub open_call-put_call-requires : goal.open_call-put_call-requires
open_call-put_call-requires t c =
    let m = (c.call_at.ensures.ok _ c.in-Ok.is).may in let l : length
    c.called_names-names.result ≡ 8 = search rules in (
      c.if-size-ge-MOST_CALLS.false,
      c.requires.5,
      m.1,
      omega (arith, m.1, l),
    )

pub open_call-body_tally-numbers-requires : goal.open_call-body_tally-numbers-requires
open_call-body_tally-numbers-requires t c =
    (((c.call_at.ensures.ok _ c.in-Ok.is).may).3, c.requires.6.size)

pub open_call-reach_term-requires : goal.open_call-reach_term-requires
open_call-reach_term-requires t c =
    let a = c.args in
    let m = (c.call_at.ensures.ok _ c.in-Ok.is).may in
    let b = ap length (c.body_at-body.ensures c.in-Ok.o.definition (c.call_at.ensures.ok _ c.in-Ok.is).called.place).piece in (
      omega (arith, c.decreases, c.if-size-ge-MOST_CALLS.false, m, b),
      (
        omega (arith, m, b),
        omega arith,
        omega (arith, c.if-size-ge-MOST_CALLS.false),
        c.put_call.auto.table ∙
            c.requires.5,
        called_tally a.question.now a.bodies.now a.src.now a.at 1 c.requires.6 c.in-Ok.o
            (c.call_at.ensures.ok _ c.in-Ok.is) (omega arith) c.body_at-body.result.now (c.body_at-body.ensures
            c.in-Ok.o.definition (c.call_at.ensures.ok _ c.in-Ok.is).called.place) c.body_tally-numbers.result.now c.body_tally-numbers.ensures 0 (omega arith),
        c.requires.6,
      ),
    )

pub open_call-returns : goal.open_call-returns
open_call-returns t c =
    let l : length c.called_names-names.result ≡ 8 = search rules in
    let a = c.args in
    let k = c.in-Ok.o.definition in
    let O = (c.call_at.ensures.ok _ c.in-Ok.is) in
    let m = O.may in
    reach_opened a.question.now a.src.now a.at a.row a.table.now a.size k O.called.definition c.in-Ok.o.arity
    c.called_names-names.result (λ q ok. O.called.arity q ok) c.called_names-names.ensures c.requires.1 c.requires.4
    (subst (ListedIs a.table.now a.size k c.called_names-names.result c.in-Ok.o.arity) c.if-is_listed.false
    c.is_listed.ensures) c.if-size-ge-MOST_CALLS.false c.requires.5 m.1 (omega (arith, m.1, l)) c.body_at-body.result.now
    (c.body_at-body.ensures k O.called.place) _ c.put_call.ensures _ _ c.reach_term.ensures

pub reach_term-returns-then-src-at : goal.reach_term-returns-then-src-at
reach_term-returns-then-src-at t c =
    let a = c.args in
    reach_past a.question.now a.src.now a.at a.row a.table.now a.size c.requires.2 c.if-src-at.true

pub reach_term-returns-then-t-eq-MATCH : goal.reach_term-returns-then-t-eq-MATCH
reach_term-returns-then-t-eq-MATCH t c =
    let a = c.args in
    reach_mat a.question.now a.src.now a.at a.row a.table.now a.size _ _ c.if-t-eq-MATCH.true
    c.reach_term.ensures

pub reach_term-open_call-requires : goal.reach_term-open_call-requires
reach_term-open_call-requires t c = (
  omega (arith, c.decreases),
  (
    c.if-src-at.false,
    omega (arith, c.if-t-eq-CALL.true),
    c.requires.0,
    c.requires.1,
    c.requires.2,
    c.requires.3,
    c.requires.5,
  ),
)

pub reach_term-returns-then-t-eq-CALL : goal.reach_term-returns-then-t-eq-CALL
reach_term-returns-then-t-eq-CALL t c = c.open_call.ensures

pub reach_term-returns-then-t-ne-CHOICE : goal.reach_term-returns-then-t-ne-CHOICE
reach_term-returns-then-t-ne-CHOICE t c =
    let a = c.args in
    reach_other a.question.now a.src.now a.at a.row a.table.now a.size c.requires.2 c.if-t-eq-MATCH.false
    c.if-t-eq-CALL.false c.if-t-ne-CHOICE.true

pub reach_term-returns-then-src-left : goal.reach_term-returns-then-src-left
reach_term-returns-then-src-left t c =
    let a = c.args in
    reach_short a.question.now a.src.now a.at a.row a.table.now a.size c.requires.2 c.if-src-left.true c.if-t-ne-CHOICE.false

pub reach_term-returns-in_err-n : goal.reach_term-returns-in_err-n
reach_term-returns-in_err-n t c =
    let a = c.args in
    rw c.from_residual.ensures (reach_left a.question.now a.src.now a.at a.row a.table.now a.size c.if-t-ne-CHOICE.false _ _ c.reach_term-2.ensures
    c.in_err-n.was)

pub reach_term-reach_term-requires-3 : goal.reach_term-reach_term-requires-3
reach_term-reach_term-requires-3 t c =
    let a = c.args in
    let o = c.reach_term-2.ensures.on _ c.in_ok-n.was in
    let e = c.requires.4.on (a.at + 1) c.if-src-left.false in (
      omega (
        arith,
        c.decreases,
        o,
        e,
        c.end_at.ensures,
      ),
      (c.requires.0, omega (arith, c.requires.1, o), o.1, search rules, c.requires.4, c.requires.5),
    )

pub reach_term-returns : goal.reach_term-returns
reach_term-returns t c =
    let a = c.args in
    reach_both a.question.now a.src.now a.at a.row a.table.now a.size c.if-t-ne-CHOICE.false _ _ c.reach_term-2.ensures
    c.requires.1 _ c.in_ok-n.was a.tally.now c.requires.4 c.end_at.result c.end_at.ensures _ _
    c.reach_term-3.ensures
