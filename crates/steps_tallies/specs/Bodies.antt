-- The definitions of an accepted question in its bytes.
use Rattle.std.specs.Prelude.{◌≡◌, Result, Ok, Err, Bool, true, false, List, ℕ, ◌+◌, ◌<◌, ◌≤◌, length, get_or}
use Rattle.terms.specs.Answer.{result}
use Rattle.terms.specs.Encoding.{encode}
use Rattle.terms_bytes.specs.FieldPlaces.{field_at, field_place}
use Rattle.terms.specs.Limits.{most_definitions, greatest_arity, longest_term}
use Rattle.terms.specs.Question.{Question, check_of}
use Rattle.steps_tallies.specs.declared.bodies.Opening.{Opening}
use Rattle.terms.specs.Question.{body_of}

unfoldable pub AritiesIs : List ℕ → List ℕ → Type 0
AritiesIs question r = (q : Question) → check_of question ≡ result q → r ≡ q.arities

pub record BodyIs (question : List ℕ) (k : ℕ) (r : List ℕ) : Type 0 where
  pub piece : r ≡ field_at question (field_place question k)
  pub is : (q : Question) → check_of question ≡ result q → k < length q.arities → r ≡ encode (get_or q.arities k 0) (body_of q.bodies k)

pub record MayOpenIs (calls definition arity size : ℕ) (r : Bool) : Type 0 where
  pub may : r ≡ true → (0 < calls) × (arity ≤ greatest_arity) × (size ≤ longest_term) × (definition < most_definitions)
  pub not : r ≡ false → 0 < calls → arity ≤ greatest_arity → size ≤ longest_term → definition < most_definitions → ⊥

-- A call at `at`, whether it may be opened or not.
pub record CalledIs (question s : List ℕ) (at : ℕ) (r : Opening) : Type 0 where
  pub definition : r.definition ≡ get_or s (at + 1) 0
  pub arity : (q : Question) → check_of question ≡ result q → r.arity ≡ get_or q.arities r.definition 0
  pub end : r.end ≡ at + 2 + r.arity
  pub place : r.place ≡ field_place question r.definition

-- A call at `at` that may be opened.
pub record OpeningIs (question s : List ℕ) (at calls : ℕ) (r : Opening) : Type 0 where
  pub called : CalledIs question s at r
  pub may : (0 < calls) × (r.arity ≤ greatest_arity) × (length (field_at question (field_place question r.definition)) ≤ longest_term)
      × (r.definition < most_definitions)

-- The call at `at` is of a definition that an accepted question has only if no call is left to open.
abbrev pub Unopened : List ℕ → List ℕ → ℕ → ℕ → Type 0
Unopened question s at calls = (q : Question) → check_of question ≡ result q → get_or s (at + 1) 0 < length q.arities → calls ≡ 0

-- The call at `at`. Where it may not be opened although a call is left to open, the question is not accepted.
pub record CallIs (question s : List ℕ) (at calls : ℕ) (r : Result Opening Opening) : Type 0 where
  pub ok : (o : Opening) → r ≡ Ok o → OpeningIs question s at calls o
  pub err : (o : Opening) → r ≡ Err o → CalledIs question s at o × Unopened question s at calls
