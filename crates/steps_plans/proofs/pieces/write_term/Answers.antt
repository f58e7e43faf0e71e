use mathlib.Core.Path.{sym, subst, ◌∙◌}
use native.Mathlib.Omega.{arith}
use borrow.Author.Tests.{leb-true, leb-false}
use Rattle.steps_conditions.specs.Names.{UnchangedIs}
use Rattle.steps_plans.proofs.ResultLaws.{term_none, term_full, term_same, term_deep, term_done}
use Rattle.steps_plans.proofs.pieces.write_term.Goals as goal

pub returns-then-src-at : goal.returns-then-src-at
returns-then-src-at c =
    let a = c.args in
    term_none a.question.now a.src.now a.cursor.at a.cursor.binders a.names.now a.levels a.out.now a.cursor.put
    c.if-src-at.true c.requires.1

pub overflow_sub-n : goal.overflow_sub-n
overflow_sub-n c =
    omega (arith, c.end_at.ensures, c.requires.2.on c.args.cursor.at c.if-src-at.false)

pub returns-then-not-room : goal.returns-then-not-room
returns-then-not-room c =
    let a = c.args in
    term_full a.question.now a.src.now a.cursor.at a.cursor.binders a.names.now a.levels a.out.now a.cursor.put
    a.tally.now c.requires.2 c.end_at.result c.end_at.ensures c.requires.1 (leb-false _ _ (sym c.room.ensures ∙ c.if-not-room.true))

pub copy-requires : goal.copy-requires
copy-requires c =
    let o = c.requires.2.on c.args.cursor.at c.if-src-at.false in
    (omega (arith, o, c.end_at.ensures), leb-true _ _ (sym c.room.ensures ∙ c.if-not-room.false))

pub overflow_add-result-then-unchanged : goal.overflow_add-result-then-unchanged
overflow_add-result-then-unchanged c =
    omega (arith, c.requires.1, c.requires.2.on c.args.cursor.at c.if-src-at.false, c.end_at.ensures, c.well_formed, c.ranges)

pub returns-then-unchanged : goal.returns-then-unchanged
returns-then-unchanged c =
    let a = c.args in
    term_same a.question.now a.src.now a.cursor.at a.cursor.binders a.names.now a.levels a.out.now a.cursor.put
    a.tally.now c.requires.2 c.end_at.result c.end_at.ensures (leb-true _ _ (sym c.room.ensures ∙ c.if-not-room.false))
    (subst (UnchangedIs a.names.now a.cursor.binders a.levels) c.if-unchanged.true c.unchanged.ensures) _
    c.copy.ensures

pub returns-then-levels-gt-MOST_LEVELS : goal.returns-then-levels-gt-MOST_LEVELS
returns-then-levels-gt-MOST_LEVELS c =
    let a = c.args in
    term_deep a.question.now a.src.now a.cursor.at a.cursor.binders a.names.now a.levels a.out.now a.cursor.put
    a.tally.now c.requires.2 c.end_at.result c.end_at.ensures c.requires.1 (omega (arith, c.if-levels-gt-MOST_LEVELS.true))

pub overflow_add-result-2 : goal.overflow_add-result-2
overflow_add-result-2 c =
    omega (arith, c.requires.1, c.requires.2.on c.args.cursor.at c.if-src-at.false, c.end_at.ensures, c.well_formed, c.ranges)

pub returns : goal.returns
returns c =
    let a = c.args in
    term_done a.question.now a.src.now a.cursor.at a.cursor.binders a.names.now a.levels a.out.now a.cursor.put
    a.tally.now c.requires.2 c.end_at.result c.end_at.ensures (leb-true _ _ (sym c.room.ensures ∙ c.if-not-room.false))
    c.arities_of.result.now c.arities_of.ensures c.renaming-table.result c.renaming-table.ensures c.rename.result _
    c.rename.ensures
