use Rattle.steps_places.proofs.PutLaws.{put-many, put_unlisted, put-outside, put_there}
use Rattle.steps_places.proofs.walk.put_place.Goals as goal

pub returns-then-n-gt-GREATEST_ARITY : goal.returns-then-n-gt-GREATEST_ARITY
returns-then-n-gt-GREATEST_ARITY c =
    let v = c.args in
    put-many v.question.now v.src.now v.at v.spot.call v.spot.row v.spot.count v.table.now v.found.now
    c.get-k.result c.get-k.ensures c.arities_of.result.now c.arities_of.ensures c.get-n.result c.get-n.ensures c.requires.1
    c.if-n-gt-GREATEST_ARITY.true

pub returns-in_default : goal.returns-in_default
returns-in_default c =
    let v = c.args in
    put_unlisted v.question.now v.src.now v.at v.spot.call v.spot.row v.spot.count v.table.now v.found.now
    c.get-k.result c.get-k.ensures c.arities_of.result.now c.arities_of.ensures c.get-n.result c.get-n.ensures c.requires.1
    c.called_names-names.result c.called_names-names.ensures c.call_number.result c.call_number.ensures c.in_default.is

pub returns-then-found-row : goal.returns-then-found-row
returns-then-found-row c =
    let v = c.args in
    put-outside v.question.now v.src.now v.at v.spot.call v.spot.row v.spot.count v.table.now v.found.now
    c.get-k.result c.get-k.ensures c.arities_of.result.now c.arities_of.ensures c.get-n.result c.get-n.ensures c.requires.1
    c.called_names-names.result c.called_names-names.ensures c.call_number.result c.call_number.ensures c.requires.4 c.requires.5
    c.if-found-row.true

pub returns : goal.returns
returns c =
    let v = c.args in
    put_there v.question.now v.src.now v.at v.spot.call v.spot.row v.spot.count v.table.now v.found.now
    c.get-k.result c.get-k.ensures c.arities_of.result.now c.arities_of.ensures c.get-n.result c.get-n.ensures
    c.requires.1 c.called_names-names.result c.called_names-names.ensures c.call_number.result c.call_number.ensures c.in-Some.i c.in-Some.is
    c.if-found-row.false _ c.with_bit.ensures

pub with_bit-requires : goal.with_bit-requires
with_bit-requires c = (c.call_number.ensures.held _ c.in-Some.is).0
