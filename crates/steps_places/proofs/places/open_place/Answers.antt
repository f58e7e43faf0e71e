use Rattle.steps_places.proofs.OpenLaws.{open_undefined, open_long, open_walked}
use Rattle.steps_reach.proofs.ReachLaws.{body-tallied}
use Rattle.steps_places.proofs.places.open_place.Goals as goal

pub returns-then-k-ge-MOST_DEFINITIONS : goal.returns-then-k-ge-MOST_DEFINITIONS
returns-then-k-ge-MOST_DEFINITIONS c =
    let v = c.args in
    open_undefined v.question.now v.spot.call v.spot.row v.spot.count v.table.now v.found.now c.get-k.result
    c.get-k.ensures c.if-k-ge-MOST_DEFINITIONS.true

pub returns-then-body-gt-LONGEST_TERM : goal.returns-then-body-gt-LONGEST_TERM
returns-then-body-gt-LONGEST_TERM c =
    let v = c.args in
    open_long v.question.now v.spot.call v.spot.row v.spot.count v.table.now v.found.now c.get-k.result c.get-k.ensures
    c.body_at-body.result.now (c.body_at-body.ensures c.get-k.result c.place_of.ensures) c.if-body-gt-LONGEST_TERM.true

pub find_term-requires : goal.find_term-requires
find_term-requires c = (
  c.if-body-gt-LONGEST_TERM.false,
  c.requires.0,
  c.requires.1,
  c.requires.2,
  body-tallied c.args.question.now c.args.bodies.now c.requires.3
      c.get-k.result c.if-k-ge-MOST_DEFINITIONS.false c.body_at-body.result.now (c.body_at-body.ensures c.get-k.result c.place_of.ensures) c.if-body-gt-LONGEST_TERM.false
      c.body_tally.result.now c.body_tally.ensures,
)

pub returns : goal.returns
returns c =
    let v = c.args in
    open_walked v.question.now v.spot.call v.spot.row v.spot.count v.table.now v.found.now c.get-k.result
    c.get-k.ensures c.body_at-body.result.now (c.body_at-body.ensures c.get-k.result c.place_of.ensures) _
    c.find_term.ensures
