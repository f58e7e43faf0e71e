-- The questions of a program's input.
use Rattle.std.specs.Prelude.{List, ℕ, zero, suc, get_or, [], ◌∷◌}
use Rattle.terms_bytes.specs.FieldPlaces.{after_field, field_at}

-- So many questions, of which the first begins at a place with its length.
unfoldable pub questions_from : List ℕ → ℕ → ℕ → List (List ℕ)
questions_from input at zero = []
questions_from input at (suc count) = field_at input at ∷ questions_from input (after_field input at) count

-- All of them: the first byte says how many there are, and the first stands behind it.
unfoldable pub questions_of : List ℕ → List (List ℕ)
questions_of input = questions_from input 1 (get_or input 0 0)

-- Where question k begins with its length.
unfoldable pub question_place : List ℕ → ℕ → ℕ
question_place input zero = 1
question_place input (suc k) = after_field input (question_place input k)
