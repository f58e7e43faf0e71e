-- What the code of check answers, and the fields that it takes a question's bytes for.
use Rattle.std.specs.Prelude.{Bool, ◌&&◌, List, [], ◌∷◌, ℕ, zero, suc, length, Result, Ok, Err, ⊤}
use Rattle.calculus.specs.Term.{Term}
use Rattle.terms.specs.Answer.{Answer, refused, result, ◌>>=◌}
use Rattle.terms_bytes.specs.FieldPlaces.{definitions_of, arities_of, after_field, field_at, field_place}
use Rattle.terms.specs.Edition.{Edition}
use Rattle.terms.specs.Framing.{Fields}
use Rattle.terms.specs.Question.{every, fits, read_bodies, read_part}
use Rattle.terms.specs.Reading.{numbered}
use Rattle.terms_scanning.specs.Scanning.{control_of, passing}
use Rattle.terms_bytes.specs.Refusals.{number_of}
use Rattle.terms_bytes.specs.declared.answer.Refusal.{Refusal}
use Rattle.terms_scanning.specs.declared.scan.Control.{Control}

-- Check answers 0, or the number of the check that turns the question back.
unfoldable pub checked_answer : Result ⊤ Refusal → Answer ℕ
checked_answer (Ok _) = result 0
checked_answer (Err k) = refused (number_of k)

-- The same answer of a question read.
module _ {A : Type 0} where
  unfoldable pub zero_for : Answer A → Answer ℕ
  zero_for r = do
    a ← r
    result 0

-- m fields, the first of which begins at `at`.
unfoldable pub fields_from : List ℕ → ℕ → ℕ → List (List ℕ)
fields_from question at zero = []
fields_from question at (suc m) = field_at question at ∷ fields_from question (after_field question at) m

-- The places of the first part, the second part and the apart list.
unfoldable pub first_place : List ℕ → ℕ
first_place question = field_place question (definitions_of question)

unfoldable pub second_place : List ℕ → ℕ
second_place question = after_field question (first_place question)

unfoldable pub apart_place : List ℕ → ℕ
apart_place question = after_field question (second_place question)

-- The fields at their places.
unfoldable pub fields_at : List ℕ → Fields
fields_at question =
    record {
      arities = arities_of question;
      bodies = fields_from question (field_place question 0) (length (arities_of question));
      first = field_at question (first_place question);
      second = field_at question (second_place question);
      apart = field_at question (apart_place question);
    }

-- Check 6 of all bodies and of both parts.
unfoldable pub all_fit : Fields → Bool
all_fit f = every fits f.bodies && fits f.first && fits f.second

-- The tests of checks 10 and 11 over all bodies.
unfoldable pub joint_of : Control → Control → Control
joint_of p q =
    record {
      sequential = p.sequential && q.sequential;
      outermost = p.outermost && q.outermost;
      guarded = p.guarded && q.guarded;
    }

unfoldable pub control_of_all : List Term → Control
control_of_all [] = passing
control_of_all (P ∷ Ps) = joint_of (control_of P) (control_of_all Ps)

unfoldable pub bodies_scanned : Edition → List ℕ → List ℕ → List (List ℕ) → Answer Control
bodies_scanned e arities sizes bodies = do
  Ps ← read_bodies e (numbered arities) sizes bodies
  result (control_of_all Ps)

-- Both parts, and then all terms: what check 10 asks of the bodies and of the parts, and check 11 of the bodies.
unfoldable pub parts_scanned : Edition → List ℕ → List ℕ → List ℕ → Answer Control
parts_scanned e arities first second = do
  P ← read_part e (numbered arities) first
  Q ← read_part e (numbered arities) second
  result (joint_of (control_of P) (control_of Q))

unfoldable pub of_both : Control → Control → Control
of_both bodies parts = record { sequential = bodies.sequential; outermost = parts.outermost; guarded = bodies.guarded }

unfoldable pub terms_scanned : Edition → Fields → Answer Control
terms_scanned e f = do
  bodies ← bodies_scanned e f.arities f.arities f.bodies
  parts ← parts_scanned e f.arities f.first f.second
  result (of_both bodies parts)
