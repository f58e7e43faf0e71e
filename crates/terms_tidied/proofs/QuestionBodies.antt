-- The bodies of an accepted question: each in its field. Assumes nothing.
use mathlib.Core.Path.{◌≡◌, refl, ap, subst, ◌∙◌}
use mathlib.Core.List.{List, [], ◌∷◌, ◌++◌, map}
use Prim.Native.Nat.{ℕ, zero, suc, ◌+◌, ◌<◌, ◌≤◌}
use native.Mathlib.Omega.{arith}
use lib.ListN.{length, get_or, drop, length-append}
use Rattle.calculus.specs.Term.{Term}
use Rattle.calculus.specs.Tidy.{tidy}
use Rattle.terms.specs.Answer.{result}
use Rattle.terms.specs.Edition.{one}
use Rattle.terms.specs.Encoding.{encode, InScope}
use Rattle.terms.specs.Framing.{sized, all_sized}
use Rattle.terms.specs.Limits.{longest_term, greatest_arity}
use Rattle.terms.specs.Question.{Question, check_of, body_fields, body_of, pair_bytes, fields_of}
use Rattle.terms.specs.WellFormed.{Every, BodiesAllowed, WellFormed}
use Rattle.terms.proofs.FramingLaws.{Framable}
use Rattle.terms.proofs.WellFormed.{accepted_well_formed, framable}
use Rattle.terms_bytes.specs.FieldPlaces.{definitions_of, after_field, field_at, field_place}
use Rattle.terms_bytes.proofs.Places.{all_fields, definitions_of_lem, field_at_place, size_of, whole, after_of, field_of_lem}
use Rattle.terms_bytes.proofs.QuestionPlaces.{accepted_joined}

-- Body k, as it stands in the question and as it is tidied.
pub record NthBody (arities sizes : List ℕ) (Ps : List Term) (k : ℕ) (rest : List (List ℕ)) : Type 0 where
  pub depth : ℕ
  pub term : Term
  pub parameters : depth ≤ greatest_arity
  pub scope : InScope 0 arities depth term
  pub size : length (encode depth term) ≤ longest_term
  pub nth : body_of Ps k ≡ term
  pub next : drop k Ps ≡ term ∷ drop (suc k) Ps
  pub field : get_or (body_fields sizes Ps ++ rest) k [] ≡ encode depth term
  pub tidied : get_or (body_fields sizes (map tidy Ps)) k [] ≡ encode depth (tidy term)

nth_body : (arities sizes : List ℕ) (Ps : List Term) → BodiesAllowed arities sizes Ps → Every (λ a. a ≤ greatest_arity) sizes → (rest : List (List ℕ))
    → (k : ℕ) → k < length sizes → NthBody arities sizes Ps k rest
unfolding BodiesAllowed body_fields body_of Every
nth_body arities (a ∷ sizes) (P ∷ Ps) w few rest zero h =
    record { depth = a; term = P; parameters = few.0; scope = w.0.scope; size = w.0.size; nth = refl; next = refl; field = refl; tidied = refl }
nth_body arities (a ∷ sizes) (P ∷ Ps) w few rest (suc k) h =
    let n = nth_body arities sizes Ps w.1 few.1 rest k (omega arith) in
    record {
      depth = n.depth;
      term = n.term;
      parameters = n.parameters;
      scope = n.scope;
      size = n.size;
      nth = n.nth;
      next = n.next;
      field = n.field;
      tidied = n.tidied;
    }
nth_body arities [] (P ∷ Ps) w few rest k h = elim w [ ]
nth_body arities (a ∷ sizes) [] w few rest k h = elim w [ ]
nth_body arities [] [] w few rest k h = absurd (omega arith)

pub count_bodies : (arities sizes : List ℕ) (Ps : List Term) → BodiesAllowed arities sizes Ps
    → (length Ps ≡ length sizes) × (length (body_fields sizes Ps) ≡ length sizes) × (length (body_fields sizes (map tidy Ps)) ≡ length sizes)
unfolding BodiesAllowed body_fields
count_bodies arities (a ∷ sizes) (P ∷ Ps) w = let c = count_bodies arities sizes Ps w.1 in (ap suc c.0, ap suc c.1, ap suc c.2)
count_bodies arities [] (P ∷ Ps) w = elim w [ ]
count_bodies arities (a ∷ sizes) [] w = elim w [ ]
count_bodies arities [] [] w = (refl, refl, refl)

-- The field at `at` has these bytes and ends within the question.
pub record FieldHas (question : List ℕ) (at : ℕ) (bs : List ℕ) : Type 0 where
  pub bytes : field_at question at ≡ bs
  pub ends : at + (2 + length bs) ≤ length question
  pub after : after_field question at ≡ at + (2 + length bs)

module _ (question : List ℕ) (q : Question) (a : check_of question ≡ result q) where
  pub well : WellFormed q
  well = accepted_well_formed question q a

  frame : Framable (fields_of q)
  frame = framable q well

  pub count_is : definitions_of question ≡ length q.arities
  unfolding fields_of
  count_is = subst (λ (s : List ℕ). definitions_of s ≡ length q.arities) (accepted_joined question q a) (definitions_of_lem one (fields_of q) frame)

  -- what stands behind the bodies
  abbrev pub behind : List (List ℕ)
  behind = encode 0 q.first ∷ encode 0 q.second ∷ pair_bytes q.apart ∷ []

  module _ (k : ℕ) (below : k < length q.arities) where
    pub body : NthBody q.arities q.arities q.bodies k behind
    body = nth_body q.arities q.arities q.bodies well.bodies well.parameters behind k below

    pub body-field : (at : ℕ) → at ≡ field_place question k → FieldHas question at (encode body.depth body.term)
    unfolding all_fields fields_of
    body-field at h =
        let E : List ℕ = encode body.depth body.term in
        let R : List ℕ = all_sized (drop (suc k) (all_fields (fields_of q))) in
        let n = (count_bodies q.arities q.arities q.bodies well.bodies).1 in
        let l : k < length (all_fields (fields_of q)) = omega (arith, length-append (body_fields q.arities q.bodies) behind) in
        let s : length E < 65536 = (let m = body.size in omega arith) in
        let st : drop at question ≡ sized E ++ R =
        ap (λ (i : ℕ). drop i question) h
        ∙ subst (λ (s : List ℕ). drop (field_place s k) s ≡ sized (get_or (all_fields (fields_of q)) k []) ++ R) (accepted_joined question q a)
        (field_at_place one (fields_of q) frame k l)
        ∙ ap (λ (l : List ℕ). sized l ++ R) body.field in
        record {
          bytes = field_of_lem question at E R s st;
          ends = omega (arith, whole question at E R s st, size_of question at E R s st);
          after = after_of question at E R s st ∙ omega arith;
        }
