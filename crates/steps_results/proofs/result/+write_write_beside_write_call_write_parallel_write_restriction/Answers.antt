use Rattle.steps_tallies.proofs.TallyLoops.{called_tally}
use mathlib.Core.Path.{◌≡◌, sym, ap, subst, ◌∙◌}
use Prim.Native.Nat.{ℕ, ◌+◌, ◌-◌, ◌≤◌}
use native.Mathlib.Omega.{arith}
use lib.ListN.{length, length-set}
use Rattle.steps_plans.proofs.BesideLaws.{beside_full, beside-written}
use borrow.Author.Rules.{rules}
use borrow.Author.Tests.{leb-true, leb-false}
use Rattle.terms_bytes.specs.NameTable.{table_names}
use Rattle.steps_tallies.specs.Tally.{TallyIs}
use Rattle.steps_plans.specs.declared.plan.Task.{Task}
use Rattle.steps_plans.proofs.ResultLaws.{ends_tallied, opening_short, write-none, write-still, write-mat, write-branch, write_open, write-res, write_res_stop, write_closed, write-opened, write_par_stop, write_left_stop, write-par}
use Rattle.steps_conditions.proofs.NameSlots.{kept-all, kept_within, kept_then}
use Rattle.steps_results.proofs.result.+write_write_beside_write_call_write_parallel_write_restriction.Goals as goal

pub write-returns-then-src-at : goal.write-returns-then-src-at
write-returns-then-src-at t c =
    let a = c.args in (
      write-none a.question.now a.src.now a.cursor.at a.cursor.binders a.names.now a.task a.out.now a.cursor.put _ _
          (omega (arith, c.requires.4)) c.if-src-at.true,
      kept-all a.cursor.binders a.names.now,
    )

pub write-write_term-requires : goal.write-write_term-requires
write-write_term-requires t c =
    let v = c.args in (
      omega (arith, c.requires.0, c.requires.1, c.if-src-at.false),
      c.requires.4.1,
      ends_tallied v.question.now v.src.now v.task.calls
          v.tally.now c.requires.5,
      c.requires.3,
    )

pub write-returns-then-task : goal.write-returns-then-task
write-returns-then-task t c =
    let a = c.args in (
      write-still a.question.now a.src.now a.cursor.at a.cursor.binders a.names.now a.task a.out.now a.cursor.put
          c.write_term.result _ c.if-task.true c.write_term.ensures,
      kept-all a.cursor.binders a.names.now,
    )

pub write-write_prefix-requires : goal.write-write_prefix-requires
write-write_prefix-requires t c = (
  c.if-src-at.false,
  omega (arith, c.get-t.ensures, c.if-t-lt-MATCH.true),
  omega (arith, c.requires.0, c.requires.1, c.if-src-at.false),
  c.if-task.false,
  c.requires.3,
  c.requires.4.1,
  c.requires.5,
)

pub write-returns-then-t-lt-MATCH : goal.write-returns-then-t-lt-MATCH
write-returns-then-t-lt-MATCH t c = c.write_prefix.ensures

pub write-write-requires : goal.write-write-requires
write-write-requires t c = (
  omega (arith, c.decreases, c.if-src-at.false),
  (
    c.requires.0,
    omega (arith, c.requires.1),
    c.requires.2,
    c.requires.3,
    (omega (arith, c.requires.4.0), c.requires.4.1),
    c.requires.5,
    c.requires.6,
  ),
)

pub write-returns-then-t-eq-MATCH : goal.write-returns-then-t-eq-MATCH
write-returns-then-t-eq-MATCH t c =
    let a = c.args in (
      write-mat a.question.now a.src.now a.cursor.at a.cursor.binders a.names.now a.task c.if-task.false a.out.now
          a.cursor.put (sym c.get-t.ensures ∙ c.if-t-eq-MATCH.true) c.write.result _ c.write.ensures.0,
      c.write.ensures.1,
    )

pub write-branch_of-b-requires : goal.write-branch_of-b-requires
write-branch_of-b-requires t c =
    (c.requires.0, c.requires.5.on)

pub write-write-requires-then-t-eq-CHOICE : goal.write-write-requires-then-t-eq-CHOICE
write-write-requires-then-t-eq-CHOICE t c =
    let a = c.args in
    let h = c.branch_of-b.ensures.past c.if-src-at.false (sym c.get-t.ensures ∙ c.if-t-eq-CHOICE.true) in
    let k : c.with_number-taken.result.calls ≡ a.task.calls = ap (λ (t : Task). t.calls) c.with_number-taken.ensures in
    let l : c.with_number-taken.result.levels ≡ a.task.levels = ap (λ (t : Task). t.levels) c.with_number-taken.ensures in (
      omega (arith, c.decreases, c.if-src-at.false, h, k),
      (
        c.requires.0,
        omega (arith, c.requires.1, h),
        omega (arith, k, c.requires.2),
        c.requires.3,
        (omega (arith, l, c.requires.4), c.requires.4.1),
        subst (λ (n : ℕ). TallyIs a.question.now a.src.now n
            a.tally.now) (sym k) c.requires.5,
        c.requires.6,
      ),
    )

pub write-returns-then-t-eq-CHOICE : goal.write-returns-then-t-eq-CHOICE
write-returns-then-t-eq-CHOICE t c =
    let a = c.args in (
      write-branch a.question.now a.src.now a.cursor.at a.cursor.binders a.names.now a.task c.if-task.false a.out.now
          a.cursor.put a.tally.now c.requires.5 c.branch_of-b.result c.branch_of-b.ensures c.with_number-taken.result
          c.with_number-taken.ensures c.write-then-t-eq-CHOICE.result _ c.write-then-t-eq-CHOICE.ensures.0,
      c.write-then-t-eq-CHOICE.ensures.1,
    )

pub write-write_beside-requires : goal.write-write_beside-requires
write-write_beside-requires t c =
    (omega (arith, c.decreases), (c.if-src-at.false, sym c.get-t.ensures ∙ c.if-t-eq-PARALLEL.true, c.if-task.false, c.requires))

pub write-returns-then-t-eq-PARALLEL : goal.write-returns-then-t-eq-PARALLEL
write-returns-then-t-eq-PARALLEL t c = c.write_beside.ensures

pub write-write_restriction-requires : goal.write-write_restriction-requires
write-write_restriction-requires t c =
    (omega (arith, c.decreases), (c.if-src-at.false, sym c.get-t.ensures ∙ c.if-t-eq-RESTRICTION.true, c.if-task.false, c.requires))

pub write-returns-then-t-eq-RESTRICTION : goal.write-returns-then-t-eq-RESTRICTION
write-returns-then-t-eq-RESTRICTION t c = c.write_restriction.ensures

pub write-write_call-requires : goal.write-write_call-requires
write-write_call-requires t c = (
  omega (arith, c.decreases),
  (
    c.if-src-at.false,
    omega (
      arith,
      c.get-t.ensures,
      c.if-t-lt-MATCH.false,
      c.if-t-eq-MATCH.false,
      c.if-t-eq-CHOICE.false,
      c.if-t-eq-PARALLEL.false,
      c.if-t-eq-RESTRICTION.false,
    ),
    c.if-task.false,
    c.requires.2,
    c.requires.0,
    c.requires.1,
    c.requires.4,
    c.requires.6,
  ),
)

pub write-returns : goal.write-returns
write-returns t c =
    let a = c.args in
    (c.write_call.ensures, kept-all a.cursor.binders a.names.now)

pub write_beside-alone-c-requires : goal.write_beside-alone-c-requires
write_beside-alone-c-requires t c = (
  omega (arith, c.requires.0),
  c.requires.3.0,
  c.requires.3.5.on,
  omega (arith, c.requires.0, c.requires.3.0, c.requires.3.1),
  c.requires.3.3,
)

pub write_beside-write_parallel-requires : goal.write_beside-write_parallel-requires
write_beside-write_parallel-requires t c =
    (omega (arith, c.decreases), c.requires)

pub write_beside-returns-then-b-at : goal.write_beside-returns-then-b-at
write_beside-returns-then-b-at t c = c.write_parallel.ensures

pub write_beside-returns-then-not-room : goal.write_beside-returns-then-not-room
write_beside-returns-then-not-room t c =
    let v = c.args in (
      beside_full v.question.now v.src.now v.tally.now v.cursor.at v.cursor.binders v.names.now v.task c.requires.3.5
          v.out.now v.cursor.put c.alone-c.result.at c.alone-c.result.number (c.alone-c.ensures.is c.requires.2 c.if-b-at.false)
          c.if-b-at.false c.requires.3.4.1 (leb-false _ _ (sym c.room.ensures ∙ c.if-not-room.true)),
      kept-all
          v.cursor.binders v.names.now,
    )

pub write_beside-copy-requires : goal.write_beside-copy-requires
write_beside-copy-requires t c = (
  omega (arith, c.if-b-at.false, c.alone-c.ensures.inside),
  leb-true _ _ (sym c.room.ensures ∙ c.if-not-room.false),
)

pub write_beside-overflow_add-behind : goal.write_beside-overflow_add-behind
write_beside-overflow_add-behind t c =
    omega (arith, c.alone-c.ensures.inside, c.requires.3.0, c.requires.3.4.1, c.well_formed)

pub write_beside-write-e-requires : goal.write_beside-write-e-requires
write_beside-write-e-requires t c =
    let v = c.args in
    let k : c.with_number-stepping.result.calls ≡ v.task.calls = ap (λ (t : Task). t.calls) c.with_number-stepping.ensures in
    let l : c.with_number-stepping.result.levels ≡ v.task.levels = ap (λ (t : Task). t.levels) c.with_number-stepping.ensures in
    let s = c.copy.auto.out in
    let fits : v.cursor.put + (c.alone-c.result.at - v.cursor.at) ≤ length v.out.now = leb-true _ _ (sym c.room.ensures ∙ c.if-not-room.false) in (
      omega (arith, k, c.decreases, c.requires.0, c.if-b-at.false),
      (
        c.requires.3.0,
        omega (arith, c.if-b-at.false, c.requires.3.1),
        omega (
          arith,
          k,
          c.requires.3.2,
        ),
        c.requires.3.3,
        (omega (arith, s, l, c.requires.3.4), omega (arith, s, fits)),
        subst (λ (n : ℕ). TallyIs
            v.question.now v.src.now n v.tally.now) (sym k) c.requires.3.5,
        c.requires.3.6,
      ),
    )

pub write_beside-copy_behind-requires : goal.write_beside-copy_behind-requires
write_beside-copy_behind-requires t c =
    (c.requires.0, c.requires.3.0, c.requires.3.5.on)

pub write_beside-returns : goal.write_beside-returns
write_beside-returns t c =
    let v = c.args in
    let s = c.copy.auto.out in
    let u = c.write-e.auto.out in (
      beside-written v.question.now v.src.now v.tally.now v.cursor.at v.cursor.binders v.names.now v.task
          c.requires.3.5 v.out.now v.cursor.put c.alone-c.result.at c.alone-c.result.number (c.alone-c.ensures.is c.requires.2
          c.if-b-at.false) c.if-b-at.false (leb-true _ _ (sym c.room.ensures ∙ c.if-not-room.false)) _ s c.copy.ensures
          c.with_number-stepping.result c.with_number-stepping.ensures c.write-e.result _ (u ∙ s) c.write-e.ensures.0 c.copy_behind.result _
          c.copy_behind.ensures,
      c.write-e.ensures.1,
    )

pub write_call-call_at-requires : goal.write_call-call_at-requires
write_call-call_at-requires t c = (c.requires.0, c.requires.7)

pub write_call-returns-in_default : goal.write_call-returns-in_default
write_call-returns-in_default t c =
    let a = c.args in
    write_closed a.question.now a.src.now a.cursor.at a.cursor.binders a.names.now a.task c.requires.2 a.out.now
    a.cursor.put c.requires.1 ((c.call_at.ensures.err _ c.in_default.is).1) _ _ (omega (arith, c.requires.6))

pub write_call-enter-inner-requires : goal.write_call-enter-inner-requires
write_call-enter-inner-requires t c = let m = (c.call_at.ensures.ok _ c.in-Ok.is).may in m.0

pub write_call-body_tally-numbers-requires : goal.write_call-body_tally-numbers-requires
write_call-body_tally-numbers-requires t c =
    (((c.call_at.ensures.ok _ c.in-Ok.is).may).3, c.requires.7.size)

pub write_call-overflow_add-at : goal.write_call-overflow_add-at
write_call-overflow_add-at t c =
    omega (arith, c.requires.0, c.requires.4)

pub write_call-called-given-requires : goal.write_call-called-given-requires
write_call-called-given-requires t c =
    let m = (c.call_at.ensures.ok _ c.in-Ok.is).may in
    (m.1, omega (arith, c.requires.0, c.requires.4, c.requires.5), omega (arith, c.requires.0, c.requires.4))

pub write_call-write-requires : goal.write_call-write-requires
write_call-write-requires t c =
    let a =
    c.args in let m =
    (c.call_at.ensures.ok _ c.in-Ok.is).may in let k : c.enter-inner.result.calls ≡
    a.task.calls - 1 = ap (λ (t : Task). t.calls) c.enter-inner.ensures in let l :
    c.enter-inner.result.levels ≡ a.task.levels = ap (λ (t : Task). t.levels)
    c.enter-inner.ensures in let b = ap length (c.body_at-body.ensures
    c.in-Ok.o.definition
    (c.call_at.ensures.ok _ c.in-Ok.is).called.place).piece in (
      omega (arith, c.decreases, c.requires.0, m, k, b),
      (
        omega (arith, m, b),
        omega (arith, m),
        omega (arith, k, c.requires.3),
        search rules,
        (omega (arith, l, c.requires.6), c.requires.6.1),
        called_tally
            a.question.now a.bodies.now a.src.now a.cursor.at a.task.calls c.requires.7
            c.in-Ok.o
            (c.call_at.ensures.ok _ c.in-Ok.is) c.requires.3 c.body_at-body.result.now
            (c.body_at-body.ensures
            c.in-Ok.o.definition
            (c.call_at.ensures.ok _ c.in-Ok.is).called.place) c.body_tally-numbers.result.now
            c.body_tally-numbers.ensures _ k,
        c.requires.7,
      ),
    )

pub write_call-returns : goal.write_call-returns
write_call-returns t c =
    let a = c.args in
    let m = (c.call_at.ensures.ok _ c.in-Ok.is).may in
    write-opened a.question.now a.src.now a.cursor.at a.cursor.binders a.names.now a.task c.requires.2 a.out.now
    a.cursor.put c.requires.1 c.in-Ok.o (c.call_at.ensures.ok _ c.in-Ok.is) c.body_at-body.result.now (c.body_at-body.ensures
    c.in-Ok.o.definition (c.call_at.ensures.ok _ c.in-Ok.is).called.place) c.requires.3 (a.task.calls - 1) (omega (arith, m)) c.enter-inner.result
    c.enter-inner.ensures c.called-given.result c.called-given.ensures c.write.result _ c.write.ensures.0

pub write_parallel-plan_of-plan-requires : goal.write_parallel-plan_of-plan-requires
write_parallel-plan_of-plan-requires t c = (
  c.requires.3.0,
  c.requires.0,
  c.requires.3.1,
  omega (arith, c.requires.3.4),
  c.requires.2,
  c.requires.3.2,
  c.requires.3.5,
  c.requires.3.6,
)

pub write_parallel-open_pair-e-requires : goal.write_parallel-open_pair-e-requires
write_parallel-open_pair-e-requires t c = c.requires.3.4.1

pub write_parallel-returns-then-out-e : goal.write_parallel-returns-then-out-e
write_parallel-returns-then-out-e t c =
    let a = c.args in
    let s = c.open_pair-e.auto.out in (
      write_par_stop a.question.now a.src.now a.cursor.at a.cursor.binders a.names.now a.task c.requires.2 a.out.now
          a.cursor.put c.requires.1 c.plan_of-plan.result c.plan_of-plan.ensures c.open_pair-e.result _ c.open_pair-e.ensures (omega (
            arith,
            s,
            c.if-out-e.true,
          )),
      kept-all a.cursor.binders a.names.now,
    )

pub write_parallel-write-m-requires : goal.write_parallel-write-m-requires
write_parallel-write-m-requires t c =
    let a = c.args in
    let s = c.open_pair-e.auto.out in
    let w = opening_short c.plan_of-plan.result.close in
    let k = c.plan_of-plan.ensures.left_calls in (
      omega (arith, c.decreases, c.requires.0, k),
      (
        c.requires.3.0,
        omega (arith, c.requires.3.1),
        omega (arith, k, c.requires.3.2),
        c.requires.3.3,
        (omega (arith, w, k, c.requires.3.4.0, c.plan_of-plan.ensures.left_levels), omega (arith, s, c.if-out-e.false)),
        subst (λ (n : ℕ).
            TallyIs a.question.now a.src.now n a.tally.now) (sym k) c.requires.3.5,
        c.requires.3.6,
      ),
    )

pub write_parallel-returns-then-out-m : goal.write_parallel-returns-then-out-m
write_parallel-returns-then-out-m t c =
    let a = c.args in
    let s = c.open_pair-e.auto.out in
    let u = c.write-m.auto.out in (
      write_left_stop a.question.now a.src.now a.cursor.at a.cursor.binders a.names.now a.task c.requires.2 a.out.now
          a.cursor.put c.requires.1 c.plan_of-plan.result c.plan_of-plan.ensures c.open_pair-e.result _ c.open_pair-e.ensures (omega (
            arith,
            s,
            c.if-out-e.false,
          )) s c.write-m.result _ c.write-m.ensures.0 (omega (arith, s, u, c.if-out-m.true)),
      c.write-m.ensures.1,
    )

pub write_parallel-write-requires : goal.write_parallel-write-requires
write_parallel-write-requires t c =
    let a = c.args in
    let s = c.open_pair-e.auto.out in
    let w = opening_short c.plan_of-plan.result.close in
    let u = c.write-m.auto.out in
    let v = c.write-m.auto.names in
    let k = c.plan_of-plan.ensures.right_calls in (
      omega (arith, c.decreases, c.requires.0, k, c.plan_of-plan.ensures.on),
      (
        c.requires.3.0,
        omega (
          arith,
          c.requires.3.1,
          c.plan_of-plan.ensures.on,
        ),
        omega (arith, k, c.requires.3.2),
        v ∙ c.requires.3.3,
        (
          omega (arith, w, k, c.requires.3.4.0, c.plan_of-plan.ensures.right_levels, c.plan_of-plan.ensures.on),
          omega (arith, s, u, c.if-out-m.false),
        ),
        subst (λ (n : ℕ). TallyIs
            a.question.now a.src.now n a.tally.now) (sym k) c.requires.3.5,
        c.requires.3.6,
      ),
    )

pub write_parallel-returns : goal.write_parallel-returns
write_parallel-returns t c =
    let a = c.args in
    let s = c.open_pair-e.auto.out in
    let u = c.write-m.auto.out in (
      write-par a.question.now a.src.now a.cursor.at a.cursor.binders a.names.now a.task c.requires.2 a.out.now
          a.cursor.put c.requires.1 c.plan_of-plan.result c.plan_of-plan.ensures c.open_pair-e.result _ c.open_pair-e.ensures (omega (
            arith,
            s,
            c.if-out-e.false,
          )) s c.write-m.result _ c.write-m.ensures.0 (omega (arith, s, u, c.if-out-m.false)) (u ∙ s) _
          c.write-m.ensures.1 c.write.result _ c.write.ensures.0,
      kept_then a.cursor.binders a.names.now _ _
          c.write-m.ensures.1 c.write.ensures.1,
    )

pub write_restriction-overflow_add-inner : goal.write_restriction-overflow_add-inner
write_restriction-overflow_add-inner t c =
    omega (arith, c.requires.3, c.requires.0)

pub write_restriction-extruded-requires : goal.write_restriction-extruded-requires
write_restriction-extruded-requires t c =
    (c.requires.0, c.requires.3.0, c.requires.3.1, c.requires.3.2, c.requires.3.5, c.requires.3.6)

pub write_restriction-overflow_add-names : goal.write_restriction-overflow_add-names
write_restriction-overflow_add-names t c =
    omega (arith, c.requires.3.0, c.requires.3.1, c.requires.0)

pub write_restriction-bounds-names-binders : goal.write_restriction-bounds-names-binders
write_restriction-bounds-names-binders t c =
    omega (arith, c.requires.3.0, c.requires.3.1, c.requires.3.3, c.requires.0)

pub write_restriction-write-requires : goal.write_restriction-write-requires
write_restriction-write-requires t c =
    let a = c.args in (
      omega (arith, c.decreases, c.requires.0),
      (
        c.requires.3.0,
        omega (arith, c.requires.3.1),
        c.requires.3.2,
        length-set a.names.now
            (table_names + a.cursor.binders) a.task.new ∙ c.requires.3.3,
        (omega (arith, c.requires.3.4.0), c.requires.3.4.1),
        c.requires.3.5,
        c.requires.3.6,
      ),
    )

pub write_restriction-returns-then-extruded : goal.write_restriction-returns-then-extruded
write_restriction-returns-then-extruded t c =
    let a = c.args in (
      write_open a.question.now a.src.now a.cursor.at a.cursor.binders a.names.now a.task c.requires.2 a.out.now
          a.cursor.put c.requires.1 c.extruded.ensures.passed c.extruded.ensures.does (omega (
            arith,
            c.requires.3.0,
            c.requires.3.1,
            c.requires.3.3,
            c.requires.0,
          )) (sym c.extruded.ensures.is ∙ c.if-extruded.true) c.write.result _
          c.write.ensures.0,
      kept_within a.cursor.binders a.task.new a.names.now _ c.write.ensures.1,
    )

pub write_restriction-store-e-requires : goal.write_restriction-store-e-requires
write_restriction-store-e-requires t c = c.requires.3.4.1

pub write_restriction-returns-then-out-e : goal.write_restriction-returns-then-out-e
write_restriction-returns-then-out-e t c =
    let a = c.args in
    let s = c.store-e.auto.out in (
      write_res_stop a.question.now a.src.now a.cursor.at a.cursor.binders a.names.now a.task c.requires.2 a.out.now
          a.cursor.put c.requires.1 c.extruded.ensures.passed c.extruded.ensures.does (sym c.extruded.ensures.is ∙ c.if-extruded.false)
          c.store-e.result _ c.store-e.ensures (omega (arith, s, c.if-out-e.true)),
      kept-all a.cursor.binders a.names.now,
    )

pub write_restriction-overflow_add-names-2 : goal.write_restriction-overflow_add-names-2
write_restriction-overflow_add-names-2 t c =
    omega (arith, c.requires.3.4)

pub write_restriction-overflow_cast-names : goal.write_restriction-overflow_cast-names
write_restriction-overflow_cast-names t c =
    omega (arith, c.requires.3.4)

pub write_restriction-overflow_add-names-3 : goal.write_restriction-overflow_add-names-3
write_restriction-overflow_add-names-3 t c =
    omega (arith, c.requires.3.0, c.requires.3.1, c.requires.0)

pub write_restriction-bounds-names-binders-2 : goal.write_restriction-bounds-names-binders-2
write_restriction-bounds-names-binders-2 t c =
    omega (arith, c.requires.3.0, c.requires.3.1, c.requires.3.3, c.requires.0)

pub write_restriction-restrict-beneath-requires : goal.write_restriction-restrict-beneath-requires
write_restriction-restrict-beneath-requires t c =
    omega (arith, c.requires.3.4)

pub write_restriction-write-requires-2 : goal.write_restriction-write-requires-2
write_restriction-write-requires-2 t c =
    let a = c.args in
    let s = c.store-e.auto.out in
    let k : c.restrict-beneath.result.calls ≡ a.task.calls = ap (λ (t : Task). t.calls) c.restrict-beneath.ensures in
    let l : c.restrict-beneath.result.levels ≡ a.task.levels + 1 = ap (λ (t : Task). t.levels) c.restrict-beneath.ensures in (
      omega (arith, c.decreases, c.requires.0, k),
      (
        c.requires.3.0,
        omega (arith, c.requires.3.1),
        omega (arith, k, c.requires.3.2),
        length-set a.names.now (table_names + a.cursor.binders) (table_names + a.task.levels) ∙ c.requires.3.3,
        (
          omega (arith, l, k, c.requires.3.4.0),
          omega (arith, s, c.if-out-e.false),
        ),
        subst (λ (n : ℕ). TallyIs a.question.now a.src.now n a.tally.now) (sym k)
            c.requires.3.5,
        c.requires.3.6,
      ),
    )

pub write_restriction-returns : goal.write_restriction-returns
write_restriction-returns t c =
    let a = c.args in
    let s = c.store-e.auto.out in (
      write-res a.question.now a.src.now a.cursor.at a.cursor.binders a.names.now a.task c.requires.2 a.out.now
          a.cursor.put c.requires.1 c.extruded.ensures.passed c.extruded.ensures.does (sym c.extruded.ensures.is ∙
          c.if-extruded.false) c.store-e.result _ c.store-e.ensures (omega (
            arith,
            c.requires.3.0,
            c.requires.3.1,
            c.requires.3.3,
            c.requires.0,
          )) (omega (arith, s, c.if-out-e.false)) s c.restrict-beneath.result c.restrict-beneath.ensures c.write-2.result _
          c.write-2.ensures.0,
      kept_within a.cursor.binders (table_names + a.task.levels) a.names.now _ c.write-2.ensures.1,
    )
