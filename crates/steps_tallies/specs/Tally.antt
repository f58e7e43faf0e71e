-- How many candidates each subterm of a part or body has, visible and silent, and where it ends, by the place where it begins: one list of numbers.
use Rattle.std.specs.Prelude.{◌≡◌, Bool, false, List, ◌++◌, map, ℕ, ◌+◌, ◌*◌, ◌<◌, ◌≤◌, length, get_or, take, drop}
use Rattle.calculus.specs.Term.{Term, ren}
use Rattle.calculus.specs.Tidy.{tidy}
use Rattle.terms.specs.Answer.{result}
use Rattle.terms.specs.Encoding.{encode, InScope}
use Rattle.terms_bytes.specs.FieldPlaces.{field_at, field_place}
use Rattle.terms.specs.Limits.{longest_term, most_definitions}
use Rattle.terms.specs.Question.{Question, check_of}
use Rattle.terms.specs.Question.{body_of}
use Rattle.terms_restrictions.specs.Restrictions.{Unrestricted}
use Rattle.steps.specs.Raw.{visible, silent}
use Rattle.steps_tallies.specs.Candidates.{OwnNamesIf}

-- Three numbers for each place, and one more; and the tallies of all bodies one behind the other, and one number more.
abbrev pub tally_size : ℕ
tally_size = 337

abbrev pub body_tallies : ℕ
body_tallies = 5393

-- That number is 0 only where no body has a restriction or an output of a new name; the last number of a part's tally only where besides the part has none.
abbrev pub restricted_bodies : ℕ
restricted_bodies = 5392

abbrev pub restricted_at : ℕ
restricted_at = 336

-- In the tally of body k the last number says where the field of the body begins, if that is a small number.
abbrev pub place_in : ℕ → ℕ
place_in k = tally_size * k + 336

abbrev pub small_place : ℕ
small_place = 65536

unfoldable pub visible_at : List ℕ → ℕ → ℕ
visible_at t at = get_or t at 0

unfoldable pub silent_at : List ℕ → ℕ → ℕ
silent_at t at = get_or t (longest_term + at) 0

unfoldable pub end_at : List ℕ → ℕ → ℕ
end_at t at = get_or t (longest_term + longest_term + at) 0

-- Every end lies behind its beginning and within the bytes, whatever these are.
abbrev pub EndsInside : List ℕ → List ℕ → Type 0
EndsInside s t = (at : ℕ) → at < length s → (at < end_at t at) × (end_at t at ≤ length s)

-- The tally of the bytes s, where so many calls may be opened one within the other. Its numbers are those of ren σ P, where P is what the bytes code:
-- whatever σ if no call is opened.
pub record TallyIs (question s : List ℕ) (calls : ℕ) (t : List ℕ) : Type 0 where
  pub on : EndsInside s t
  pub is : (q : Question) (at free D : ℕ) (σ : ℕ → ℕ) → OwnNamesIf calls σ → (P : Term) (rest : List ℕ)
      → check_of question ≡ result q
      → InScope free q.arities D P
      → drop at s ≡ encode D P ++ rest
      → (visible_at t at ≡ length (visible (body_of q.bodies) calls (ren σ P)))
      × (silent_at t at ≡ length (silent (body_of q.bodies) calls (ren σ P)))
      × (end_at t at ≡ at + length (encode D P))

-- The ends alone, which are the same however many calls may be opened.
pub record EndsTallied (question s t : List ℕ) : Type 0 where
  pub on : EndsInside s t
  pub is : (q : Question) (at free D : ℕ) (P : Term) (rest : List ℕ)
      → check_of question ≡ result q
      → InScope free q.arities D P
      → drop at s ≡ encode D P ++ rest
      → end_at t at ≡ at + length (encode D P)

-- The tally of body k, and the numbers of the calls of definition k: those of the whole body.
unfoldable pub body_tally : List ℕ → ℕ → List ℕ
body_tally t k = take tally_size (drop (tally_size * k) t)

unfoldable pub visible_call : List ℕ → ℕ → ℕ
visible_call t k = visible_at t (tally_size * k)

unfoldable pub silent_call : List ℕ → ℕ → ℕ
silent_call t k = silent_at t (tally_size * k)

-- n visible and m silent candidates are few for so many bytes, where a call has at most B visible ones
unfoldable pub Few : ℕ → ℕ → ℕ → ℕ → Type 0
Few B bytes n m = (n ≤ B * bytes) × (m ≤ B * bytes * (B * bytes))

unfoldable pub FewCalls : ℕ → List ℕ → Type 0
FewCalls B t = (1 ≤ B) × ((k : ℕ) → Few B 1 (visible_call t k) (silent_call t k))

-- The bodies of the definitions below n are tallied, where no call may be opened in them; and no call has more candidates than a body may have.
pub record TalliedBelow (question : List ℕ) (n : ℕ) (t : List ℕ) : Type 0 where
  pub size : length t ≡ body_tallies
  pub few : FewCalls longest_term t
  pub are : (k : ℕ) → k < n → length (field_at question (field_place question k)) ≤ longest_term
      → TallyIs question (field_at question (field_place question k)) 0 (body_tally t k)

-- The places of the definitions below n are there.
unfoldable pub PlacesBelow : List ℕ → ℕ → List ℕ → Type 0
PlacesBelow question n t = (k : ℕ) → k < n → field_place question k < small_place → get_or t (place_in k) 0 ≡ field_place question k

-- The bodies of the question are tidied (document 02, request 2026-04).
abbrev pub BodiesTidied : List ℕ → Type 0
BodiesTidied question = (q : Question) → check_of question ≡ result q → map tidy q.bodies ≡ q.bodies

-- No body has a restriction or an output of a new name.
abbrev pub BodiesUnrestricted : List ℕ → Type 0
BodiesUnrestricted question = (q : Question) → check_of question ≡ result q → (k : ℕ) → Unrestricted (body_of q.bodies k)

-- The bodies of all definitions are tallied, and their places are there; they are tidied, and it is known whether they have restrictions.
pub record BodiesTallied (question t : List ℕ) : Type 0 where
  pub size : length t ≡ body_tallies
  pub few : FewCalls longest_term t
  pub are : (k : ℕ) → k < most_definitions → length (field_at question (field_place question k)) ≤ longest_term
      → TallyIs question (field_at question (field_place question k)) 0 (body_tally t k)
  pub places : PlacesBelow question most_definitions t
  pub tidied : BodiesTidied question
  pub plain : get_or t restricted_bodies 0 ≡ 0 → BodiesUnrestricted question

-- The tally of a part, with what is said of restrictions noted in it.
pub record PartTallied (question s : List ℕ) (restricted : Bool) (t : List ℕ) : Type 0 where
  pub is : TallyIs question s 1 t
  pub noted : get_or t restricted_at 0 ≡ 0 → restricted ≡ false
