-- A question with its bodies tidied, and what the code that writes it promises.
use Rattle.std.specs.Prelude.{List, map, ◌≡◌, ℕ, ◌+◌, ◌≤◌, length}
use Rattle.std.proofs.lemmas.List.Edits.{sets}
use Rattle.calculus.specs.Term.{Term}
use Rattle.calculus.specs.Tidy.{tidy}
use Rattle.terms.specs.Answer.{result}
use Rattle.terms.specs.Edition.{one}
use Rattle.terms.specs.Encoding.{encode, InScope}
use Rattle.terms.specs.Framing.{sized, all_sized}
use Rattle.terms.specs.Limits.{greatest_arity, longest_term}
use Rattle.terms.specs.Question.{Question, check_of, body_fields}
use Rattle.terms_bytes.specs.FieldPlaces.{definitions_of, field_at, field_place}
use Rattle.terms_bytes.specs.Writing.{Plain, Writes}
use Rattle.terms_tidying.specs.declared.tidy.Ends.{Ends}

-- The parts and the apart list stay as they are.
unfoldable pub tidied_bodies : Question → Question
tidied_bodies q =
    record { arities = q.arities; bodies = map tidy q.bodies; first = q.first; second = q.second; apart = q.apart }

-- They are tidied as they are.
abbrev pub HasTidied : List ℕ → Type 0
HasTidied question = (q : Question) → check_of question ≡ result q → map tidy q.bodies ≡ q.bodies

-- The field at `at` is the body P with d parameters, and there is room for it behind a length of two bytes.
pub record BodyAt (question : List ℕ) (at : ℕ) (arities out : List ℕ) (put d : ℕ) (P : Term) : Type 0 where
  pub parameters : d ≤ greatest_arity
  pub scope : InScope 0 arities d P
  pub bytes : field_at question at ≡ encode d P
  pub size : length (encode d P) ≤ longest_term
  pub room : put + (2 + length (encode d P)) ≤ length out

pub record HasBody (question : List ℕ) (at : ℕ) (arities out : List ℕ) (put : ℕ) : Type 0 where
  pub depth : ℕ
  pub term : Term
  pub body : BodyAt question at arities out put depth term

unfoldable pub TidiesBody : List ℕ → ℕ → List ℕ → List ℕ → ℕ → ℕ → List ℕ → Type 0
TidiesBody question at arities out put r out' =
    (d : ℕ) (P : Term) → BodyAt question at arities out put d P
    → (r ≡ put + (2 + length (encode d (tidy P)))) × (out' ≡ sets out put (sized (encode d (tidy P))))

-- The question is accepted in edition one, and the area holds it: it grows no longer.
pub record MayTidyBodies (question out : List ℕ) : Type 0 where
  pub accepted : Plain question
  pub room : length question ≤ length out

-- The fields of all bodies, tidied.
unfoldable pub tidied_fields : Question → List ℕ
tidied_fields q = all_sized (body_fields q.arities (map tidy q.bodies))

unfoldable pub TidiesBodies : List ℕ → List ℕ → Ends → List ℕ → Type 0
TidiesBodies question out r out' =
    (q : Question) → check_of question ≡ result q
    → (r.read ≡ field_place question (definitions_of question)) × (r.written ≡ field_place question 0 + length (tidied_fields q))
    × (r.written ≤ r.read) × (out' ≡ sets out (field_place question 0) (tidied_fields q))

unfoldable pub WritesTidied : List ℕ → List ℕ → ℕ → List ℕ → Type 0
WritesTidied question out r out' = (q : Question) → check_of question ≡ result q → Writes one (tidied_bodies q) out r out'
