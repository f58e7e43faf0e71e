use mathlib.Core.Path.{sym, ◌∙◌}
use Prim.Native.Nat.{◌+◌, ◌-◌, ◌≤◌}
use native.Mathlib.Omega.{arith}
use borrow.Author.Tests.{leb-true, leb-false}
use Rattle.terms.specs.Limits.{longest_term}
use Rattle.steps_splicing.proofs.MetResults.{hole_past, hole_past_end, hole_full, hole_shallow, hole_written}
use borrow.Author.Rules.{rules}
use Rattle.steps_splicing.proofs.splice.write_hole.Goals as goal

pub returns-then-at-from-clause-is : goal.returns-then-at-from-clause-is
returns-then-at-from-clause-is c =
    let v = c.args in
    hole_past v.question.now v.part.now v.seam.from v.hole v.new v.out.now v.seam.put c.if-at-from.true _ _

pub returns-then-not-room-clause-is : goal.returns-then-not-room-clause-is
returns-then-not-room-clause-is c =
    let v = c.args in
    hole_full v.question.now v.part.now v.seam.from v.hole v.new v.out.now v.seam.put (let h = leb-false (v.seam.put +
    (v.hole.at - v.seam.from)) longest_term (sym c.room.ensures ∙ c.if-not-room.true) in omega (arith, c.requires.2)) _ (omega
    (arith, c.requires.2)) _

pub overflow_add-e : goal.overflow_add-e
overflow_add-e c =
    let v = c.args in
    record {
      fits = let h : v.seam.put + (v.hole.at - v.seam.from) ≤ longest_term = leb-true _ _ (sym c.room.ensures ∙ c.if-not-room.false) in omega arith;
    }

pub returns-then-e-levels-clause-is : goal.returns-then-e-levels-clause-is
returns-then-e-levels-clause-is c =
    let v = c.args in
    hole_shallow v.question.now v.part.now v.seam.from v.hole v.new v.out.now v.seam.put c.if-e-levels.true _ _

pub copy-requires : goal.copy-requires
copy-requires c =
    let v = c.args in
    let h : v.seam.put + (v.hole.at - v.seam.from) ≤ longest_term = leb-true _ _ (sym c.room.ensures ∙ c.if-not-room.false) in
    (omega (arith, c.requires.1.1, c.if-at-from.false), omega (arith, c.requires.2))

pub write-end-requires : goal.write-end-requires
write-end-requires c =
    let v = c.args in
    let g = c.requires in
    let h : v.seam.put + (v.hole.at - v.seam.from) ≤ longest_term = leb-true _ _ (sym
    c.room.ensures ∙ c.if-not-room.false) in (
      g.0.0,
      omega (arith, g.1.0),
      omega arith,
      search rules,
      (
        omega (arith, g.1.0),
        omega (arith, g.2),
      ),
      g.0.1,
      g.0.2,
    )

pub returns-else-end-gt-LONGEST_TERM-clause-is : goal.returns-else-end-gt-LONGEST_TERM-clause-is
returns-else-end-gt-LONGEST_TERM-clause-is c =
    let v = c.args in
    let h : v.seam.put + (v.hole.at - v.seam.from) ≤ longest_term = leb-true _ _ (sym c.room.ensures ∙ c.if-not-room.false) in
    hole_written v.question.now v.part.now v.seam.from v.hole v.new v.out.now v.seam.put
    (omega (arith, c.requires.2)) (omega (arith, c.requires.2)) c.own_names-names.result (c.own_names-names.ensures _ (search rules)) _ c.copy.ensures c.write-end.result _ c.write-end.ensures.0

pub returns-then-end-gt-LONGEST_TERM-clause-is : goal.returns-then-end-gt-LONGEST_TERM-clause-is
returns-then-end-gt-LONGEST_TERM-clause-is c =
    let v = c.args in
    let h : v.seam.put + (v.hole.at - v.seam.from) ≤ longest_term = leb-true _ _ (sym c.room.ensures ∙ c.if-not-room.false) in
    hole_past_end v.question.now v.part.now v.seam.from v.hole v.new v.out.now v.seam.put _ (omega (arith, c.requires.2, c.if-end-gt-LONGEST_TERM.true)) _ (hole_written v.question.now v.part.now v.seam.from v.hole v.new v.out.now v.seam.put
    (omega (arith, c.requires.2)) (omega (arith, c.requires.2)) c.own_names-names.result (c.own_names-names.ensures _ (search rules)) _ c.copy.ensures c.write-end.result _ c.write-end.ensures.0) _ (omega (arith, c.requires.2))
