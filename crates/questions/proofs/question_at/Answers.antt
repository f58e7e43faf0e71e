use mathlib.Core.Path.{refl, ap, ◌∙◌}
use native.Mathlib.Numerals.{add-one}
use native.Mathlib.Omega.{arith}
use mathlib.Core.Path.{◌≡◌}
use Rattle.terms_bytes.specs.FieldPlaces.{after_field, field_at}
use Rattle.questions.specs.Questions.{question_place}
use Rattle.questions.proofs.question_at.Goals as goal

pub loop-i-init : goal.loop-i-init
unfolding question_place
loop-i-init c = refl

pub loop-i-preserved : goal.loop-i-preserved
unfolding question_place
loop-i-preserved c = rw add-one (c.after_field-at.ensures ∙ ap (after_field _) c.loop-i.invariant)

pub returns : goal.returns
returns c =
    let e : c.loop-i.i ≡ c.args.k = omega arith in
    c.field_at.ensures ∙ ap (field_at c.args.input.now) (c.loop-i.invariant ∙ ap (question_place c.args.input.now) e)
