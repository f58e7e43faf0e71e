use Prim.Native.Nat.{◌+◌, ◌-◌, ◌<◌, ◌≤◌}
use lib.ListN.{length}
use Rattle.terms.specs.Limits.{longest_term}
use mathlib.Core.Path.{sym, ◌∙◌}
use native.Mathlib.Omega.{arith}
use borrow.Author.Tests.{leb-true, leb-false}
use Rattle.steps_splicing.proofs.PlacedResults.{placed_over, placed-stored}
use borrow.Author.Rules.{rules}
use Rattle.steps_splicing.proofs.splice.write_placed.Goals as goal

pub overflow_sub-n : goal.overflow_sub-n
overflow_sub-n c =
    omega (arith, c.end_at-end.ensures, c.requires.0.1.on c.args.place.at c.requires.1.1)

pub copy-requires-2 : goal.copy-requires-2
copy-requires-2 c =
    let h : c.write-put.result + (length c.args.part.now - c.end_at-end.result) ≤ longest_term = leb-true _ _ (sym
    c.room.ensures ∙ c.if-not-room.false) in
    (omega (arith, c.end_at-end.ensures, c.requires.0.1.on c.args.place.at c.requires.1.1), omega arith)

pub overflow_add-result : goal.overflow_add-result
overflow_add-result c =
    record {
      fits = let h : c.write-put.result + (length c.args.part.now - c.end_at-end.result) ≤ longest_term = leb-true _ _ (sym
          c.room.ensures ∙ c.if-not-room.false) in omega arith;
    }

pub returns-clause-is : goal.returns-clause-is
returns-clause-is c =
    let a = c.args in
    let h : c.write-put.result + (length c.args.part.now - c.end_at-end.result) ≤ longest_term = leb-true _ _ (sym c.room.ensures ∙
    c.if-not-room.false) in
    placed-stored a.question.now a.part.now a.tally.now c.requires.0.1 a.place.at a.place.depth a.candidate.silently
    a.candidate.number a.candidate.x a.out.now c.own_names-names.result (c.own_names-names.ensures _ (search rules)) c.write-put.result _ _
    c.copy.ensures c.write-put.ensures.0 (omega (arith, c.requires.2)) c.requires.1.0
    c.end_at-end.result c.end_at-end.ensures (omega (arith, c.requires.2)) _ c.copy-2.ensures

pub returns-then-not-room-clause-is : goal.returns-then-not-room-clause-is
returns-then-not-room-clause-is c =
    let a = c.args in
    let h : longest_term < c.write-put.result + (length c.args.part.now - c.end_at-end.result) = leb-false _ _ (sym c.room.ensures ∙
    c.if-not-room.true) in
    placed_over a.question.now a.part.now a.tally.now c.requires.0.1 a.place.at a.place.depth a.candidate.silently
    a.candidate.number a.candidate.x a.out.now c.own_names-names.result (c.own_names-names.ensures _ (search rules)) c.write-put.result _ _
    c.copy.ensures c.write-put.ensures.0 (omega (arith, c.requires.2)) c.requires.1.0
    c.end_at-end.result c.end_at-end.ensures (omega arith) _ (omega arith)
