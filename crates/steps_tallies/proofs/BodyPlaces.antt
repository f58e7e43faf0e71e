-- The definitions of an accepted question stand where the code finds them. Assumes nothing.
use mathlib.Core.Path.{◌≡◌, refl, sym, ap, ◌∙◌}
use mathlib.Core.List.{List, [], ◌∷◌, ◌++◌}
use Prim.Native.Nat.{ℕ, zero, suc, ◌<◌}
use native.Mathlib.Nat.{not-suc-le-zero, le_of_suc-le-suc}
use native.Mathlib.Omega.{arith}
use lib.ListN.{length, get_or}
use Rattle.calculus.specs.Term.{Term}
use Rattle.terms.specs.Edition.{one}
use Rattle.terms.specs.Encoding.{encode}
use Rattle.terms_bytes.specs.FieldPlaces.{arities_of, field_at, field_place}
use Rattle.terms.specs.Question.{body_fields, fields_of}
use Rattle.terms_bytes.proofs.Places.{all_fields, arities_of_lem, field_is}
use Rattle.terms_bytes.proofs.QuestionPlaces.{accepted_joined}
use Rattle.terms.proofs.WellFormed.{BodiesAllowed, accepted_well_formed, framable}
use Rattle.steps_tallies.specs.Bodies.{AritiesIs, BodyIs}
use Rattle.terms.specs.Question.{body_of}

pub arities_are : (question : List ℕ) → AritiesIs question (arities_of question)
unfolding AritiesIs fields_of
arities_are question q e =
    let w = accepted_well_formed question q e in
    ap arities_of (sym (accepted_joined question q e)) ∙ arities_of_lem one (fields_of q) (framable q w)

-- The bytes of body k, and that there is one.
body-field : (arities sizes : List ℕ) (bodies : List Term) (rest : List (List ℕ)) → BodiesAllowed arities sizes bodies → (k : ℕ) → k < length sizes
    → (k < length (body_fields sizes bodies ++ rest)) × (get_or (body_fields sizes bodies ++ rest) k [] ≡ encode (get_or sizes k 0) (body_of bodies k))
unfolding BodiesAllowed body_fields body_of
body-field arities (a ∷ sizes) (P ∷ Ps) rest w zero h = (omega arith, refl)
body-field arities (a ∷ sizes) (P ∷ Ps) rest w (suc k) h =
    let (l, e) = body-field arities sizes Ps rest w.1 k (le_of_suc-le-suc h) in
    (omega arith, e)
body-field arities [] (P ∷ Ps) rest w k h = elim w [ ]
body-field arities (a ∷ sizes) [] rest w k h = elim w [ ]
body-field arities [] [] rest w k h = absurd (not-suc-le-zero h)

pub body_is : (question : List ℕ) (k : ℕ) → BodyIs question k (field_at question (field_place question k))
unfolding fields_of all_fields
body_is question k = record {
  piece = refl;
  is = λ q e h.
      let w = accepted_well_formed question q e in
      let f = body-field q.arities q.arities q.bodies _ w.bodies k h in
      ap (λ (s : List ℕ). field_at s (field_place s k)) (sym (accepted_joined question q e)) ∙ field_is one (fields_of q) (framable q w) k f.0 ∙ f.1;
}
