use mathlib.Core.Path.{refl, sym, ap, ◌∙◌}
use native.Mathlib.Omega.{arith}
use lib.ListN.{length}
use borrow.Author.Tests.{not-true, not-false}
use Rattle.terms.specs.Limits.{longest_term}
use Rattle.steps_labels.proofs.LabelWalks.{weight_on, weight_part, weight_body}
use Rattle.steps_tallies.proofs.TallyLoops.{called_tally}
use Rattle.steps_passing.proofs.TwoSides.{middle_on}
use Rattle.steps_rows.proofs.QuietWalks.{unconditional_not, unconditional-none, unconditional_idle, unconditional-prefix, unconditional-res, unconditional-sum, unconditional_closed, unconditional-called}
use Prim.Native.Nat.{◌+◌, ◌*◌, ◌≤◌}
use Rattle.steps_rows.proofs.rows.+unconditional_unconditional_call.Goals as goal

pub unconditional-returns-then-src-at : goal.unconditional-returns-then-src-at
unconditional-returns-then-src-at t c =
    let a = c.args in
    unconditional-none a.question.now a.src.now a.at a.calls _ c.if-src-at.true

pub unconditional-returns-then-silent_at-eq0 : goal.unconditional-returns-then-silent_at-eq0
unconditional-returns-then-silent_at-eq0 t c =
    let a = c.args in
    unconditional_idle a.question.now a.src.now a.at a.calls _ a.tally.now c.requires.2 (sym c.silent_at.ensures ∙ c.if-silent_at-eq0.true)

pub unconditional-returns-then-t-lt-MATCH : goal.unconditional-returns-then-t-lt-MATCH
unconditional-returns-then-t-lt-MATCH t c =
    let a = c.args in
    unconditional-prefix a.question.now a.src.now a.at a.calls _ c.if-t-lt-MATCH.true

pub unconditional-overflow_add-at : goal.unconditional-overflow_add-at
unconditional-overflow_add-at t c =
    omega (arith, c.requires.0, c.if-src-at.false)

pub unconditional-unconditional-requires : goal.unconditional-unconditional-requires
unconditional-unconditional-requires t c =
    let a = c.args in (
      weight_on (a.calls * 113) (length a.src.now) a.at (a.at + 1) t 3 c.decreases (omega arith) c.if-src-at.false,
      (
        c.requires.0,
        c.requires.1,
        c.requires.2,
        c.requires.3,
      ),
    )

pub unconditional-returns-then-t-eq-RESTRICTION : goal.unconditional-returns-then-t-eq-RESTRICTION
unconditional-returns-then-t-eq-RESTRICTION t c =
    let a = c.args in
    unconditional-res a.question.now a.src.now a.at a.calls _ c.if-t-eq-RESTRICTION.true c.unconditional.ensures

pub unconditional-unconditional_call-requires : goal.unconditional-unconditional_call-requires
unconditional-unconditional_call-requires t c =
    let a = c.args in
    (weight_part (a.calls * 113) (length a.src.now) a.at t 2 c.decreases, (c.if-src-at.false, c.if-t-gt-RESTRICTION.true, c.requires.1, c.requires.3))

pub unconditional-returns-then-t-gt-RESTRICTION : goal.unconditional-returns-then-t-gt-RESTRICTION
unconditional-returns-then-t-gt-RESTRICTION t c = c.unconditional_call.ensures

pub unconditional-returns-then-t-ne-CHOICE : goal.unconditional-returns-then-t-ne-CHOICE
unconditional-returns-then-t-ne-CHOICE t c =
    let a = c.args in
    unconditional_not a.question.now a.src.now a.at a.calls _ refl

pub unconditional-middle_of-middle-requires : goal.unconditional-middle_of-middle-requires
unconditional-middle_of-middle-requires t c =
    (c.if-src-at.false, c.requires.0)

pub unconditional-overflow_add-at-2 : goal.unconditional-overflow_add-at-2
unconditional-overflow_add-at-2 t c =
    omega (arith, c.requires.0, c.if-src-at.false)

pub unconditional-unconditional-requires-2 : goal.unconditional-unconditional-requires-2
unconditional-unconditional-requires-2 t c =
    let a = c.args in (
      weight_on (a.calls * 113) (length a.src.now) a.at (a.at + 1) t 3 c.decreases (omega arith) c.if-src-at.false,
      (
        c.requires.0,
        c.requires.1,
        c.requires.2,
        c.requires.3,
      ),
    )

pub unconditional-returns-then-not-unconditional : goal.unconditional-returns-then-not-unconditional
unconditional-returns-then-not-unconditional t c =
    let a = c.args in
    unconditional_not a.question.now a.src.now a.at a.calls _ refl

pub unconditional-unconditional-requires-3 : goal.unconditional-unconditional-requires-3
unconditional-unconditional-requires-3 t c =
    let a = c.args in
    let on = middle_on a.question.now a.src.now a.calls a.tally.now c.requires.2 a.at c.middle_of-middle.result c.middle_of-middle.ensures
    c.if-src-at.false in (
      weight_on (a.calls * 113) (length a.src.now) a.at c.middle_of-middle.result t 3 c.decreases (on) c.if-src-at.false,
      (
        c.requires.0,
        c.requires.1,
        c.requires.2,
        c.requires.3,
      ),
    )

pub unconditional-returns : goal.unconditional-returns
unconditional-returns t c =
    let a = c.args in
    unconditional-sum a.question.now a.src.now a.at a.calls _ c.if-t-ne-CHOICE.false a.tally.now c.requires.2 c.middle_of-middle.result
    c.middle_of-middle.ensures c.unconditional-2.result (c.if-not-unconditional.false) c.unconditional-2.ensures c.unconditional-3.ensures

pub unconditional_call-returns-in_default : goal.unconditional_call-returns-in_default
unconditional_call-returns-in_default t c =
    let a = c.args in
    unconditional_closed a.question.now a.src.now a.at a.calls _ c.requires.1 ((c.call_at.ensures.err _ c.in_default.is).1)

pub unconditional_call-body_tally-within-requires : goal.unconditional_call-body_tally-within-requires
unconditional_call-body_tally-within-requires t c =
    let m = (c.call_at.ensures.ok _ c.in-Ok.is).may in
    (m.3, c.requires.3.size)

pub unconditional_call-overflow_sub-calls : goal.unconditional_call-overflow_sub-calls
unconditional_call-overflow_sub-calls t c =
    let m = (c.call_at.ensures.ok _ c.in-Ok.is).may in
    omega (arith, m)

pub unconditional_call-unconditional-requires : goal.unconditional_call-unconditional-requires
unconditional_call-unconditional-requires t c =
    let a = c.args in
    let m = (c.call_at.ensures.ok _ c.in-Ok.is).may in
    let b : length c.body_at-body.result.now ≤ longest_term = omega (
      arith,
      m,
      ap length (c.body_at-body.ensures c.in-Ok.o.definition
          (c.call_at.ensures.ok _ c.in-Ok.is).called.place).piece,
    ) in (
      weight_body a.calls (length a.src.now) a.at (length c.body_at-body.result.now) t 2 c.decreases m.0 b,
      (
        b,
        omega (arith, c.requires.2),
        called_tally a.question.now a.bodies.now a.src.now a.at a.calls c.requires.3 c.in-Ok.o (c.call_at.ensures.ok _ c.in-Ok.is) c.requires.2 c.body_at-body.result.now (c.body_at-body.ensures c.in-Ok.o.definition
            (c.call_at.ensures.ok _ c.in-Ok.is).called.place) c.body_tally-within.result.now c.body_tally-within.ensures _ refl,
        c.requires.3,
      ),
    )

pub unconditional_call-returns : goal.unconditional_call-returns
unconditional_call-returns t c =
    let a = c.args in
    let m = (c.call_at.ensures.ok _ c.in-Ok.is).may in
    unconditional-called a.question.now a.src.now a.at a.calls _ c.requires.1 c.in-Ok.o (c.call_at.ensures.ok _ c.in-Ok.is) m.0 c.requires.2
    c.body_at-body.result.now (c.body_at-body.ensures c.in-Ok.o.definition (c.call_at.ensures.ok _ c.in-Ok.is).called.place) c.unconditional.ensures
