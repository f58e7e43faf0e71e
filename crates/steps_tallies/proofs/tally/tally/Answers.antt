use Rattle.steps_tallies.proofs.TallyLoops.{tally_is, calls_are, part_tallied, no_byte}
use borrow.Author.Rules.{rules}
use Rattle.steps_tallies.proofs.tally.tally.Goals as goal

pub returns : goal.returns
returns c =
    let v = c.args in
    part_tallied v.question.now v.src.now v.restricted c.fill.new.tally _
    c.requires.0 (search rules) (tally_is v.question.now
    v.src.now c.arities_of.result.now v.bodies.now _ 1
    c.arities_of.ensures (calls_are v.question.now v.bodies.now
    c.requires.1) c.fill.ensures) (no_byte v.restricted)
