use mathlib.Core.Path.{subst}
use Rattle.steps_rows.specs.Rows.{UnconditionalIs}
use Rattle.steps_walk.proofs.walk.take_silent.Goals as goal

pub take_unconditional-requires : goal.take_unconditional-requires
take_unconditional-requires c =
    let v = c.args in (
      c.requires.0,
      c.requires.1,
      c.requires.2,
      subst (λ b. UnconditionalIs v.question.now v.part.now v.node.at 1 b) c.if-unconditional.true
          c.unconditional.ensures,
    )

pub returns-then-unconditional : goal.returns-then-unconditional
returns-then-unconditional c = c.take_unconditional.ensures

pub returns : goal.returns
returns c = c.take_numbered.ensures
