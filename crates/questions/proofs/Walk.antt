-- One question after the other.
use mathlib.Core.Path.{◌≡◌, refl, ap, ◌∙◌}
use native.Mathlib.Numerals.{unary_clauses}
use native.Mathlib.Omega.{arith}
use Rattle.std.proofs.Common.{rules}
use Rattle.std.specs.Prelude.{List, ℕ, zero, suc, [], ◌∷◌, ◌-◌, ◌<◌, get_or, slice_index_or}
use Rattle.terms_bytes.specs.FieldPlaces.{after_field, field_at}
use Rattle.questions.specs.Questions.{questions_from, questions_of, question_place}

pub none_left : (input : List ℕ) (at count : ℕ) → count ≡ 0 → questions_from input at count ≡ []
unfolding questions_from
none_left input at zero e = refl
none_left input at (suc count) e = search rules

pub one_more : (input : List ℕ) (at count : ℕ) → (count ≡ 0 → ⊥) → questions_from input at count ≡ field_at input at ∷ questions_from input (after_field input at) (count - 1)
unfolding questions_from
one_more input at zero n = search rules
one_more input at (suc count) n = simp unary_clauses refl

-- The place so many fields behind another.
unfoldable behind : List ℕ → ℕ → ℕ → ℕ
behind input at zero = at
behind input at (suc k) = after_field input (behind input at k)

behind_field : (input : List ℕ) (at k : ℕ) → behind input (after_field input at) k ≡ behind input at (suc k)
unfolding behind
behind_field input at zero = refl
behind_field input at (suc k) = ap (after_field input) (behind_field input at k)

behind_first : (input : List ℕ) (k : ℕ) → behind input 1 k ≡ question_place input k
unfolding behind question_place
behind_first input zero = refl
behind_first input (suc k) = ap (after_field input) (behind_first input k)

stands_behind : (input : List ℕ) (at count k : ℕ) → k < count → slice_index_or (questions_from input at count) k [] ≡ field_at input (behind input at k)
unfolding behind questions_from
stands_behind input at zero k l = search rules
stands_behind input at (suc count) zero l = refl
stands_behind input at (suc count) (suc k) l = stands_behind input (after_field input at) count k (omega arith) ∙ ap (field_at input) (behind_field input at k)

-- Question k of those that the program goes over is the one that begins where k others have been passed.
pub kth_question : (input : List ℕ) (k : ℕ) → k < get_or input 0 0 → slice_index_or (questions_of input) k [] ≡ field_at input (question_place input k)
unfolding questions_of
kth_question input k l = stands_behind input 1 (get_or input 0 0) k l ∙ ap (field_at input) (behind_first input k)
