-- Where a term stands in a part beneath parallels and restrictions alone, and which of the part's candidates are its own.
use Rattle.std.specs.Prelude.{◌≡◌, List, [], ◌∷◌, ◌++◌, ℕ, suc, ◌+◌, ◌<◌, ◌≤◌, length, get_or}
use Rattle.calculus.specs.Term.{Term, par, res}
use Rattle.terms.specs.Encoding.{encode, InScope}
use Rattle.terms.specs.Limits.{name_count}
use Rattle.steps.specs.Raw.{Candidate, blocked, left_steps, right_steps, restricted, visible, silent}

-- What stands around a term: it is the left side of a parallel, or the right one, or beneath a restriction.
pub data Frame : Type 0 where
  left_of : Term → Frame
  right_of : Term → Frame
  beneath : Frame

-- The whole term, from the frames around a term, the innermost first.
unfoldable pub fill : List Frame → Term → Term
fill [] C = C
fill (left_of Q ∷ K) C = fill K (par C Q)
fill (right_of P ∷ K) C = fill K (par P C)
fill (beneath ∷ K) C = fill K (res C)

-- [Par] and [Res] for each frame: the whole's candidate from the term's.
unfoldable pub raised : List Frame → Candidate → Candidate
raised [] c = c
raised (left_of Q ∷ K) c = raised K (left_steps Q c)
raised (right_of P ∷ K) c = raised K (right_steps P c)
raised (beneath ∷ K) c = raised K (restricted c)

-- The restrictions around the term, where d stand around the frames.
unfoldable pub level_in : ℕ → List Frame → ℕ
level_in d [] = d
level_in d (left_of Q ∷ K) = level_in d K
level_in d (right_of P ∷ K) = level_in d K
level_in d (beneath ∷ K) = suc (level_in d K)

abbrev pub restrictions : List Frame → ℕ
restrictions K = level_in 0 K

-- The whole's bytes before the term, and those behind it, where d restrictions stand around the whole.
unfoldable pub before_in : ℕ → List Frame → List ℕ
before_in d [] = []
before_in d (left_of Q ∷ K) = before_in d K ++ (7 ∷ [])
before_in d (right_of P ∷ K) = before_in d K ++ (7 ∷ encode (level_in d K) P)
before_in d (beneath ∷ K) = before_in d K ++ (8 ∷ [])

unfoldable pub behind_in : ℕ → List Frame → List ℕ
behind_in d [] = []
behind_in d (left_of Q ∷ K) = encode (level_in d K) Q ++ behind_in d K
behind_in d (right_of P ∷ K) = behind_in d K
behind_in d (beneath ∷ K) = behind_in d K

abbrev pub bytes_before : List Frame → List ℕ
bytes_before K = before_in 0 K

abbrev pub bytes_behind : List Frame → List ℕ
bytes_behind K = behind_in 0 K

-- The candidates cs are those of the whole from number n on, each raised.
pub record Numbered (whole : List Candidate) (K : List Frame) (cs : List Candidate) (n : ℕ) : Type 0 where
  pub inside : n + length cs ≤ length whole
  pub is : (j : ℕ) → j < length cs → get_or whole (n + j) blocked ≡ raised K (get_or cs j blocked)

-- The term C stands at `at` in the bytes of P, under so many restrictions; its visible candidates are those of P from number `first` on, and its
-- silent ones those from number `number` on.
pub record Placed (arities : List ℕ) (body : ℕ → Term) (P : Term) (K : List Frame) (C : Term) (at depth first number : ℕ) : Type 0 where
  pub whole : fill K C ≡ P
  pub level : restrictions K ≡ depth
  pub place : length (bytes_before K) ≡ at
  pub scope : InScope name_count arities depth C
  pub visibly : Numbered (visible body 1 P) K (visible body 1 C) first
  pub silently : Numbered (silent body 1 P) K (silent body 1 C) number
