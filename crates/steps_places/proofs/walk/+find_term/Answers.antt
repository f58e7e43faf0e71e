use Rattle.steps_places.proofs.WalkLaws.{find_past, find_other, find_short, find_mat, find_sum}
use Prim.Native.Nat.{◌+◌}
use native.Mathlib.Omega.{arith}
use borrow.Author.Rules.{rules}
use Rattle.steps_places.proofs.walk.+find_term.Goals as goal

pub returns-then-src-at : goal.returns-then-src-at
returns-then-src-at t c =
    let v = c.args in
    find_past v.question.now v.src.now v.at v.spot.call v.spot.row v.spot.count v.table.now v.found.now c.if-src-at.true

pub put_place-requires : goal.put_place-requires
put_place-requires t c =
    (c.if-src-at.false, omega (arith, c.if-t-eq-CALL.true), c.requires.0, c.requires.1, c.requires.2, c.requires.3)

pub returns-then-t-eq-CALL : goal.returns-then-t-eq-CALL
returns-then-t-eq-CALL t c = c.put_place.ensures

pub matched-row-requires : goal.matched-row-requires
matched-row-requires t c =
    (omega (arith, c.requires.0, c.if-src-at.false), c.requires.1, c.requires.2)

pub find_term-requires : goal.find_term-requires
find_term-requires t c =
    (omega (arith, c.decreases, c.if-src-at.false), (c.requires.0, c.requires.1, c.requires.2, c.requires.3, c.requires.4))

pub returns-then-t-eq-MATCH : goal.returns-then-t-eq-MATCH
returns-then-t-eq-MATCH t c =
    let v = c.args in
    find_mat v.question.now v.src.now v.at v.spot.call v.spot.row v.spot.count v.table.now v.found.now _
    c.matched-row.result c.if-t-eq-MATCH.true c.matched-row.ensures c.find_term.ensures

pub returns-then-t-ne-CHOICE : goal.returns-then-t-ne-CHOICE
returns-then-t-ne-CHOICE t c =
    let v = c.args in
    find_other v.question.now v.src.now v.at v.spot.call v.spot.row v.spot.count v.table.now v.found.now
    c.if-t-eq-MATCH.false c.if-t-eq-CALL.false c.if-t-ne-CHOICE.true

pub returns-then-src-left : goal.returns-then-src-left
returns-then-src-left t c =
    let v = c.args in
    find_short v.question.now v.src.now v.at v.spot.call v.spot.row v.spot.count v.table.now v.found.now
    c.if-src-left.true c.if-t-ne-CHOICE.false

pub find_term-requires-2 : goal.find_term-requires-2
find_term-requires-2 t c =
    (omega (arith, c.decreases, c.if-src-at.false), (c.requires.0, c.requires.1, c.requires.2, c.requires.3, c.requires.4))

pub find_term-requires-3 : goal.find_term-requires-3
find_term-requires-3 t c =
    let e = c.requires.4.on
    (c.args.at
    + 1) c.if-src-left.false in (
      omega (arith, c.decreases, e, c.end_at-right.ensures),
      (
        c.requires.0,
        c.requires.1,
        c.requires.2,
        search rules,
        c.requires.4,
      ),
    )

pub returns : goal.returns
returns t c =
    let v = c.args in
    find_sum v.question.now v.src.now v.at v.spot.call v.spot.row v.spot.count v.table.now v.found.now _ _
    v.tally.now c.end_at-right.result c.if-t-ne-CHOICE.false c.requires.4 c.end_at-right.ensures c.find_term-2.ensures
    c.find_term-3.ensures
