use mathlib.Core.Path.{◌≡◌, ap, ◌∙◌}
use Prim.Native.Nat.{ℕ, ◌+◌}
use native.Mathlib.Omega.{arith}
use native.Mathlib.Numerals.{add-one}
use borrow.Author.Rules.{rules}
use Rattle.terms_bytes.specs.FieldPlaces.{after_field, field_place}
use Rattle.terms_bytes.proofs.frame.field_place.Goals as goal

pub loop-i-init : goal.loop-i-init
unfolding field_place
loop-i-init c = (search rules, ap (λ (n : ℕ). 2 + n) c.definitions-at.ensures.0)

pub loop-i-preserved : goal.loop-i-preserved
unfolding field_place
loop-i-preserved c = (search rules, rw add-one (c.after_field-at.ensures ∙ ap (after_field _) c.loop-i.invariant.1))

pub returns : goal.returns
returns c =
    let e : c.loop-i.i ≡ c.args.k = omega arith in
    c.loop-i.invariant.1 ∙ ap (field_place c.args.question.now) e
