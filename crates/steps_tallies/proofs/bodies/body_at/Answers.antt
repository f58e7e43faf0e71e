use mathlib.Core.Path.{sym, ap, subst, ◌∙◌}
use Rattle.terms_bytes.specs.FieldPlaces.{field_at}
use Rattle.steps_tallies.specs.Bodies.{BodyIs}
use Rattle.steps_tallies.proofs.BodyPlaces.{body_is}
use Rattle.steps_tallies.proofs.bodies.body_at.Goals as goal

pub returns : goal.returns
returns c =
    λ k e. let s = c.args.question.now in subst (BodyIs s k) (sym (c.field_at.ensures ∙ ap (field_at s) e)) (body_is s k
    )
