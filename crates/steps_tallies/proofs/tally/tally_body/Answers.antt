use mathlib.Core.Path.{◌∙◌}
use native.Mathlib.Omega.{arith}
use Rattle.terms.specs.Limits.{longest_term}
use Rattle.steps_tallies.proofs.TallyLoops.{none_few, part_size, tallied-empty, tallied_long, tallied-more}
use Rattle.steps_tallies.proofs.tally.tally_body.Goals as goal

pub returns-then-body-eq0 : goal.returns-then-body-eq0
returns-then-body-eq0 c =
    let v = c.args in
    tallied-empty v.question.now v.bodies.now v.k c.requires.1 c.body_at-body.result.now (c.body_at-body.ensures v.k c.requires.2)
    c.if-body-eq0.true

pub returns-then-body-gt-LONGEST_TERM : goal.returns-then-body-gt-LONGEST_TERM
returns-then-body-gt-LONGEST_TERM c =
    let v = c.args in
    tallied_long v.question.now v.bodies.now v.k c.requires.1 c.body_at-body.result.now (c.body_at-body.ensures v.k c.requires.2)
    c.if-body-gt-LONGEST_TERM.true

pub fill-requires : goal.fill-requires
fill-requires c =
    (c.if-body-gt-LONGEST_TERM.false, none_few 1 longest_term (omega arith), part_size c.args.bodies.now c.requires.1.size c.args.k c.requires.0)

pub returns : goal.returns
returns c =
    let v = c.args in
    tallied-more v.question.now v.bodies.now v.k c.requires.1 c.body_at-body.result.now (c.body_at-body.ensures v.k c.requires.2)
    c.requires.0 c.arities_of.result.now c.arities_of.ensures c.if-body-eq0.false c.if-body-gt-LONGEST_TERM.false c.fill.new.tally
    c.fill.ensures (c.fill.auto.tally ∙ part_size v.bodies.now c.requires.1.size v.k c.requires.0)
