use mathlib.Core.Path.{sym, ◌∙◌}
use Prim.Native.Nat.{◌+◌, ◌-◌, ◌<◌, ◌≤◌}
use native.Mathlib.Omega.{arith}
use lib.ListN.{length}
use borrow.Author.Tests.{leb-true, leb-false}
use Rattle.terms.specs.Limits.{longest_term}
use Rattle.steps_splicing.proofs.MetResults.{met_stop, met_stop_2, met_short, met_over, met-stored}
use Rattle.steps_splicing.proofs.splice.write_met.Goals as goal

pub returns-in_err-m-clause-is : goal.returns-in_err-m-clause-is
returns-in_err-m-clause-is c =
    let v = c.args in
    rw c.from_residual.ensures (met_stop v.question.now v.part.now v.tally.now c.requires.0.1 v.left v.right v.new v.out.now _ _
    c.in_err-m.ensures.is (omega (arith, c.requires.3)))

pub write_hole-requires-2 : goal.write_hole-requires-2
write_hole-requires-2 c =
    (c.requires.0, c.requires.2, c.write_hole.auto.out ∙ c.requires.3, c.in_ok-m.ensures.room)

pub returns-in_err-e-clause-is : goal.returns-in_err-e-clause-is
returns-in_err-e-clause-is c =
    let v = c.args in
    rw c.from_residual-in_err-e.ensures (met_stop_2 v.question.now v.part.now v.tally.now c.requires.0.1 v.left v.right v.new v.out.now c.in_ok-m.m
    _ c.in_ok-m.ensures.is (omega (arith, c.requires.3, c.in_ok-m.ensures.room)) c.write_hole.auto.out c.end_at-from.result
    c.end_at-from.ensures _ _ c.in_err-e.ensures.is (omega (arith, c.requires.3)))

pub returns-then-part-end-clause-is : goal.returns-then-part-end-clause-is
returns-then-part-end-clause-is c =
    let v = c.args in
    met_short v.question.now v.part.now v.tally.now c.requires.0.1 v.left v.right v.new v.out.now c.in_ok-m.m
    _ c.in_ok-m.ensures.is (omega (arith, c.requires.3, c.in_ok-m.ensures.room)) c.write_hole.auto.out c.end_at-from.result
    c.end_at-from.ensures c.in_ok-e.e _ c.in_ok-e.ensures.is (omega (arith, c.requires.3, c.in_ok-e.ensures.room))
    (c.write_hole-2.auto.out ∙ c.write_hole.auto.out) c.end_at-end.result c.end_at-end.ensures
    c.if-part-end.true _ _

pub copy-requires : goal.copy-requires
copy-requires c =
    let h : c.in_ok-e.e + (length c.args.part.now - c.end_at-end.result) ≤ longest_term = leb-true _ _ (sym
    c.room.ensures ∙ c.if-not-room.false) in (
      omega (arith, c.if-part-end.false),
      omega (arith, c.requires.3, (c.write_hole-2.auto.out ∙ c.write_hole.auto.out)),
    )

pub overflow_add-result : goal.overflow_add-result
overflow_add-result c =
    record {
      fits = let h : c.in_ok-e.e + (length c.args.part.now - c.end_at-end.result) ≤ longest_term = leb-true _ _ (sym
          c.room.ensures ∙ c.if-not-room.false) in omega arith;
    }

pub returns : goal.returns
returns c =
    let v = c.args in
    let h : c.in_ok-e.e + (length v.part.now - c.end_at-end.result) ≤ longest_term = leb-true _ _ (sym c.room.ensures ∙
    c.if-not-room.false) in
    record {
      room = h;
      is = met-stored v.question.now v.part.now v.tally.now c.requires.0.1 v.left v.right v.new v.out.now
          c.in_ok-m.m _ c.in_ok-m.ensures.is (omega (arith, c.requires.3, c.in_ok-m.ensures.room))
          c.write_hole.auto.out c.end_at-from.result c.end_at-from.ensures c.in_ok-e.e _
          c.in_ok-e.ensures.is (omega (arith, c.requires.3, c.in_ok-e.ensures.room)) (c.write_hole-2.auto.out ∙
          c.write_hole.auto.out) c.end_at-end.result c.end_at-end.ensures (omega (arith, c.requires.3)) _
          c.copy.ensures;
    }

pub returns-then-not-room-clause-is : goal.returns-then-not-room-clause-is
returns-then-not-room-clause-is c =
    let v = c.args in
    let h : longest_term < c.in_ok-e.e + (length v.part.now - c.end_at-end.result) = leb-false _ _ (sym c.room.ensures ∙
    c.if-not-room.true) in
    met_over v.question.now v.part.now v.tally.now c.requires.0.1 v.left v.right v.new v.out.now c.in_ok-m.m
    _ c.in_ok-m.ensures.is (omega (arith, c.requires.3, c.in_ok-m.ensures.room)) c.write_hole.auto.out c.end_at-from.result
    c.end_at-from.ensures c.in_ok-e.e _ c.in_ok-e.ensures.is (omega (arith, c.requires.3, c.in_ok-e.ensures.room))
    (c.write_hole-2.auto.out ∙ c.write_hole.auto.out) c.end_at-end.result c.end_at-end.ensures
    (omega (arith, c.requires.3)) _ (omega (arith, c.requires.3))
