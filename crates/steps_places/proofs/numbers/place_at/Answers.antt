use native.Mathlib.Omega.{arith}
use Rattle.steps_places.proofs.NumberLaws.{place_none, place_past, place_there}
use Rattle.steps_places.proofs.numbers.place_at.Goals as goal

pub returns-in_err-at : goal.returns-in_err-at
returns-in_err-at c =
    let v = c.args in
    place_none v.found.now v.weights.now v.rows v.number c.row_at.result c.row_at.ensures c.in_err-at.was _

pub returns-in_err-c : goal.returns-in_err-c
returns-in_err-c c =
    let v = c.args in
    place_past v.found.now v.weights.now v.rows v.number c.row_at.result c.row_at.ensures _ c.in_ok-at.was c.call_at.result c.call_at.ensures c.in_err-c.was _

pub returns : goal.returns
returns c =
    let v = c.args in
    place_there v.found.now v.weights.now v.rows v.number c.row_at.result c.row_at.ensures _ c.in_ok-at.was c.call_at.result c.call_at.ensures _ c.in_ok-c.was

pub offset_bounds-found-row : goal.offset_bounds-found-row
offset_bounds-found-row c =
    let a = c.row_at.ensures.some _ c.in_ok-at.was in
    omega (arith, a, c.requires)

pub bounds-found-row : goal.bounds-found-row
bounds-found-row c =
    let a = c.row_at.ensures.some _ c.in_ok-at.was in
    omega (arith, a, c.requires)
