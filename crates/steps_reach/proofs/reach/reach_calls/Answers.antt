use mathlib.Core.Path.{◌∙◌}
use native.Mathlib.Omega.{arith}
use Rattle.steps_reach.proofs.ReachLaws.{body-tallied, reach_long, reach_calls_are}
use Rattle.steps_reach.proofs.reach.reach_calls.Goals as goal

pub returns-then-body-gt-LONGEST_TERM : goal.returns-then-body-gt-LONGEST_TERM
returns-then-body-gt-LONGEST_TERM c =
    let a = c.args in
    reach_long a.question.now a.definition a.names.now c.body_at-body.result.now (c.body_at-body.ensures a.definition
    c.place_of.ensures) c.if-body-gt-LONGEST_TERM.true _

pub reach_term-requires : goal.reach_term-requires
reach_term-requires c =
    let a = c.args in (
      c.if-body-gt-LONGEST_TERM.false,
      omega arith,
      omega arith,
      c.put_call.auto.table ∙ c.requires.2,
      body-tallied a.question.now a.bodies.now c.requires.3
          a.definition c.requires.0 c.body_at-body.result.now (c.body_at-body.ensures a.definition c.place_of.ensures) c.if-body-gt-LONGEST_TERM.false
          c.body_tally-numbers.result.now c.body_tally-numbers.ensures,
      c.requires.3,
    )

pub returns : goal.returns
returns c =
    let a = c.args in
    reach_calls_are a.question.now a.definition a.names.now c.body_at-body.result.now (c.body_at-body.ensures a.definition
    c.place_of.ensures) a.table.now c.requires.2 c.requires.1 _ c.put_call.ensures _ _ c.reach_term.ensures
