-- What the code that writes a question in the other edition promises.
use Rattle.std.specs.Prelude.{◌≡◌, Bool, List, [], ◌∷◌, ◌++◌, ℕ, ◌+◌, ◌<◌, ◌≤◌, length, Result}
use Rattle.std.proofs.lemmas.List.Edits.{sets}
use Rattle.calculus.specs.Term.{Term}
use Rattle.terms.specs.Answer.{result, ◌>>◌, need}
use Rattle.terms.specs.Edition.{Edition, other, encode_in}
use Rattle.terms.specs.Encoding.{InScope}
use Rattle.terms.specs.Framing.{sized, all_sized}
use Rattle.terms.specs.Operations.{written_within}
use Rattle.terms.specs.Question.{Question, check_in, body_fields_in, write_in, fits_in}
use Rattle.terms_bytes.specs.Counted.{edition_from}
use Rattle.terms_bytes.specs.FieldPlaces.{field_at, field_place}
use Rattle.terms_bytes.specs.Writing.{Does, Writes}
use Rattle.terms_bytes.specs.declared.answer.Refusal.{Refusal}

-- The field at `at` is the bytes of a term in scope, and there is room for the other edition behind a length of two bytes.
pub record MayConvertField (question : List ℕ) (at : ℕ) (arities : List ℕ) (counted : Bool) (out : List ℕ) (put : ℕ) : Type 0 where
  pub free : ℕ
  pub depth : ℕ
  pub term : Term
  pub scope : InScope free arities depth term
  pub bytes : field_at question at ≡ encode_in (edition_from counted) depth term
  pub short : length (encode_in (other (edition_from counted)) depth term) < 65536
  pub room : put + (2 + length (encode_in (other (edition_from counted)) depth term)) ≤ length out

unfoldable pub ConvertsField : List ℕ → ℕ → List ℕ → Bool → List ℕ → ℕ → ℕ → List ℕ → Type 0
ConvertsField question at arities counted out put r out' =
    (free d : ℕ) (P : Term) → InScope free arities d P → field_at question at ≡ encode_in (edition_from counted) d P
    → put + (2 + length (encode_in (other (edition_from counted)) d P)) ≤ length out
    → (r ≡ put + (2 + length (encode_in (other (edition_from counted)) d P))) × (out' ≡ sets out put (sized (encode_in (other (edition_from counted)) d P)))

-- The bytes of all bodies and of both parts, in their order.
unfoldable pub term_fields : Edition → Question → List (List ℕ)
term_fields e q = body_fields_in e q.arities q.bodies ++ (encode_in e 0 q.first ∷ encode_in e 0 q.second ∷ [])

-- The question is accepted in the edition that is told, and there is room for it in the other.
unfoldable pub AcceptedFrom : List ℕ → Bool → Type 0
AcceptedFrom question counted = (q : Question) × (check_in (edition_from counted) question ≡ result q)

pub record MayConvert (question : List ℕ) (counted : Bool) (out : List ℕ) : Type 0 where
  pub old : Question
  pub accepted : check_in (edition_from counted) question ≡ result old
  pub room : length (write_in (other (edition_from counted)) old) ≤ length out

unfoldable pub ConvertsTerms : List ℕ → Bool → List ℕ → ℕ → List ℕ → Type 0
ConvertsTerms question counted out r out' =
    (q : Question) → check_in (edition_from counted) question ≡ result q
    → (r ≡ field_place question 0 + length (all_sized (term_fields (other (edition_from counted)) q)))
    × (out' ≡ sets out (field_place question 0) (all_sized (term_fields (other (edition_from counted)) q)))

unfoldable pub ConvertsQuestion : List ℕ → Bool → List ℕ → ℕ → List ℕ → Type 0
ConvertsQuestion question counted out r out' =
    (q : Question) → check_in (edition_from counted) question ≡ result q → Writes (other (edition_from counted)) q out r out'

-- Checks 17 and 15, of the bytes of a question that is accepted in the other edition.
unfoldable pub WritesFitting : List ℕ → List ℕ → Result ℕ Refusal → List ℕ → Type 0
WritesFitting converted area r area' =
    (e : Edition) (question : List ℕ) (q : Question) → check_in (other e) question ≡ result q → converted ≡ write_in e q
    → Does (need 17 (fits_in e q) >> written_within e (length area) q) area r area'
