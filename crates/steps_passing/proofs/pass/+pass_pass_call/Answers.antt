use Rattle.steps_tallies.proofs.TallyLoops.{called_tally}
use mathlib.Core.Bool.{false}
use mathlib.Core.Path.{refl, ap}
use Prim.Native.Nat.{◌-◌, ◌<◌}
use native.Mathlib.Omega.{arith}
use lib.ListN.{length, get_or}
use Rattle.steps_passing.specs.Branching.{Acts}
use Rattle.steps_passing.proofs.PassLaws.{pass_none, pass_prefix, pass_res}
use Rattle.steps_passing.proofs.SourceLaws.{far_byte}
use Rattle.steps_passing.proofs.CalledPasses.{pass_closed, pass_opened}
use Rattle.steps_passing.proofs.pass.+pass_pass_call.Goals as goal

pub pass-source_of-source-requires : goal.pass-source_of-source-requires
pass-source_of-source-requires t c = (c.requires.0, c.requires.3.on)

pub pass-returns-then-src-b : goal.pass-returns-then-src-b
unfolding Acts
pass-returns-then-src-b t c =
    let a = c.args in
    let p = c.source_of-source.result in
    let S = c.source_of-source.ensures in
    S.is a.question.now a.binders a.calls _ c.requires.3 (rw c.silent.ensures (pass_none a.question.now a.src.now p.at
    a.binders a.calls false p.number c.if-src-b.true))

pub pass-pass_prefix-requires : goal.pass-pass_prefix-requires
pass-pass_prefix-requires t c =
    (c.if-src-b.false, c.if-t-lt-MATCH.true, omega (arith, c.requires.0, c.requires.1, c.if-src-b.false))

pub pass-returns-then-t-lt-MATCH : goal.pass-returns-then-t-lt-MATCH
unfolding Acts
pass-returns-then-t-lt-MATCH t c =
    let a = c.args in
    let p = c.source_of-source.result in
    let S = c.source_of-source.ensures in
    S.is a.question.now a.binders a.calls _ c.requires.3 (pass_prefix a.question.now a.src.now p.at a.binders a.calls
    false p.number c.if-t-lt-MATCH.true c.pass_prefix.result c.pass_prefix.ensures)

pub pass-overflow_add-b : goal.pass-overflow_add-b
pass-overflow_add-b t c =
    omega (arith, c.requires.0, c.if-src-b.false)

pub pass-overflow_add-binders : goal.pass-overflow_add-binders
pass-overflow_add-binders t c =
    omega (arith, c.requires.0, c.requires.1, c.if-src-b.false, c.source_of-source.ensures.on)

pub pass-pass-p-requires : goal.pass-pass-p-requires
pass-pass-p-requires t c = (
  omega (arith, c.decreases, c.if-src-b.false, c.source_of-source.ensures.on),
  (
    c.requires.0,
    omega (arith, c.requires.1, c.source_of-source.ensures.on),
    c.requires.2,
    c.requires.3,
    c.requires.4,
  ),
)

pub pass-leaving-requires : goal.pass-leaving-requires
pass-leaving-requires t c =
    omega (arith, c.requires.0, c.requires.1, c.if-src-b.false, c.source_of-source.ensures.on)

pub pass-returns-then-t-eq-RESTRICTION : goal.pass-returns-then-t-eq-RESTRICTION
unfolding Acts
pass-returns-then-t-eq-RESTRICTION t c =
    let a = c.args in
    let p = c.source_of-source.result in
    let S = c.source_of-source.ensures in
    S.is a.question.now a.binders a.calls _ c.requires.3 (rw c.leaving.ensures (pass_res a.question.now a.src.now p.at
    a.binders a.calls false p.number c.pass-p.result c.if-t-eq-RESTRICTION.true c.pass-p.ensures))

pub pass-pass_call-requires : goal.pass-pass_call-requires
pass-pass_call-requires t c =
    let p = c.source_of-source.result in
    let S = c.source_of-source.ensures in
    let call : 8 < get_or c.args.src.now p.at 0 = far_byte (get_or c.args.src.now p.at 0) c.if-t-lt-MATCH.false c.if-t-eq-RESTRICTION.false
    (S.ended c.if-src-b.false) in (
      omega (arith, c.decreases, S.on),
      (
        c.if-src-b.false,
        call,
        c.requires.0,
        omega (arith, c.requires.1, c.source_of-source.ensures.on),
        c.requires.2,
        c.requires.4,
      ),
    )

pub pass-returns : goal.pass-returns
unfolding Acts
pass-returns t c =
    let a = c.args in
    let p = c.source_of-source.result in
    let S = c.source_of-source.ensures in
    S.is a.question.now a.binders a.calls _ c.requires.3 c.pass_call.ensures

pub pass_call-call_at-requires : goal.pass_call-call_at-requires
pass_call-call_at-requires t c = (c.requires.0, c.requires.5)

pub pass_call-returns-in_default : goal.pass_call-returns-in_default
pass_call-returns-in_default t c =
    let a = c.args in
    rw c.silent.ensures (pass_closed a.question.now a.src.now a.at a.binders a.calls false a.i c.requires.1
    ((c.call_at.ensures.err _ c.in_default.is).1))

pub pass_call-body_tally-numbers-requires : goal.pass_call-body_tally-numbers-requires
pass_call-body_tally-numbers-requires t c =
    (((c.call_at.ensures.ok _ c.in-Ok.is).may).3, c.requires.5.size)

pub pass_call-overflow_sub-calls : goal.pass_call-overflow_sub-calls
pass_call-overflow_sub-calls t c =
    let m = (c.call_at.ensures.ok _ c.in-Ok.is).may in
    omega (arith, m)

pub pass_call-pass-p-requires : goal.pass_call-pass-p-requires
pass_call-pass-p-requires t c =
    let a = c.args in
    let m = (c.call_at.ensures.ok _ c.in-Ok.is).may in (
      omega (
        arith,
        c.decreases,
        c.requires.0,
        m,
        ap length (c.body_at-body.ensures c.in-Ok.o.definition
            (c.call_at.ensures.ok _ c.in-Ok.is).called.place).piece,
      ),
      (
        omega (
          arith,
          m,
          ap length (c.body_at-body.ensures c.in-Ok.o.definition
              (c.call_at.ensures.ok _ c.in-Ok.is).called.place).piece,
        ),
        omega (arith, m),
        omega (arith, c.requires.4),
        called_tally a.question.now a.bodies.now
            a.src.now a.at a.calls c.requires.5 c.in-Ok.o (c.call_at.ensures.ok _ c.in-Ok.is) c.requires.4
            c.body_at-body.result.now (c.body_at-body.ensures c.in-Ok.o.definition (c.call_at.ensures.ok _ c.in-Ok.is).called.place) c.body_tally-numbers.result.now
            c.body_tally-numbers.ensures _ refl,
        c.requires.5,
      ),
    )

pub pass_call-overflow_add-at : goal.pass_call-overflow_add-at
pass_call-overflow_add-at t c = omega (arith, c.requires)

pub pass_call-returned-requires : goal.pass_call-returned-requires
pass_call-returned-requires t c =
    (omega (arith, c.requires.0, c.requires.2, c.requires.3), omega (arith, c.requires.0, c.requires.2), c.pass-p.ensures.slot)

pub pass_call-returns : goal.pass_call-returns
pass_call-returns t c =
    let a = c.args in
    let m = (c.call_at.ensures.ok _ c.in-Ok.is).may in
    rw c.returned.ensures (pass_opened a.question.now a.src.now a.at a.binders a.calls false a.i c.requires.1
    c.in-Ok.o.definition c.in-Ok.o.arity (c.call_at.ensures.ok _ c.in-Ok.is).called.definition (c.call_at.ensures.ok _ c.in-Ok.is).called.arity
    c.body_at-body.result.now (c.body_at-body.ensures c.in-Ok.o.definition (c.call_at.ensures.ok _ c.in-Ok.is).called.place) (omega (
      arith,
      c.requires.0,
      c.requires.2,
      c.requires.3,
    )) c.requires.4 (a.calls - 1) (omega (arith, m)) c.pass-p.result c.pass-p.ensures)
