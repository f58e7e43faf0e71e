use mathlib.Core.Path.{ap, ◌∙◌}
use Prim.Native.Nat.{ℕ}
use lib.Dec.{eqb}
use lib.ListN.{length}
use Rattle.terms_bytes.specs.FieldPlaces.{after_field}
use Rattle.terms_checks.proofs.FramedPlaces.{apart_place_lem}
use Rattle.terms_checks.proofs.check.framed_whole.Goals as goal

pub returns : goal.returns
returns c =
    let a = c.args in
    ap (λ (n : ℕ). eqb n (length a.question.now)) (c.after_field.ensures ∙ ap (after_field a.question.now) (apart_place_lem a.question.now
    c.definitions.result c.field_place-first.result c.after_field-second.result c.after_field-apart.result c.definitions.ensures.0
    c.field_place-first.ensures c.after_field-second.ensures c.after_field-apart.ensures))
