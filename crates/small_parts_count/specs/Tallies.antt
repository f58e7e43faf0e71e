-- Pairs of words counted one by one by their verdict.
use Rattle.std.specs.Prelude.{List, [], ◌∷◌, ◌++◌, map, ℕ, ◌+◌, ◌*◌, ◌≤◌, ◌<◌, length, get_or}
use Rattle.terms.specs.Answer.{Answer, refused, result}
use Rattle.verdict.specs.Judge.{slot_bytes}
use Rattle.verdict.specs.Verdict.{Verdict, unsettled, same, different}
use Rattle.small_parts.specs.Census.{census_capacity, greatest_length, verdict_on}
use Rattle.small_parts_words.specs.Words.{most_parts, word_of}
use Rattle.small_parts_count.specs.declared.tally.Tally.{Tally}

unfoldable pub none : Tally
none = record { same = 0; different = 0; unsettled = 0 }

abbrev pub plus_of : Tally → ℕ → ℕ → ℕ → Tally
plus_of t a b c = record { same = t.same + a; different = t.different + b; unsettled = t.unsettled + c }

-- one more pair, whose question is answered so
unfoldable pub added : Tally → Answer Verdict → Tally
added t (refused k) = t
added t (result (same n)) = plus_of t 1 0 0
added t (result (different n)) = plus_of t 0 1 0
added t (result unsettled) = plus_of t 0 0 1

unfoldable pub tallied : Tally → List (List ℕ × List ℕ) → Tally
tallied t [] = t
tallied t (p ∷ ps) = tallied (added t (verdict_on p.0 p.1)) ps

-- the pairs of one word with each that is kept
abbrev pub with_each : ℕ → ℕ → List ℕ → List (List ℕ × List ℕ)
with_each n first kept = map (λ k. (word_of n first, word_of n k)) kept

-- those of the word kept at `row`
unfoldable pub row_of : ℕ → ℕ → List ℕ → List (List ℕ × List ℕ)
row_of n row kept = with_each n (get_or kept row 0) kept

-- the pairs of each word of the first list with each of the second
unfoldable pub word_pairs : ℕ → List ℕ → List ℕ → List (List ℕ × List ℕ)
word_pairs n [] kept = []
word_pairs n (first ∷ rest) kept = with_each n first kept ++ word_pairs n rest kept

abbrev pub total : Tally → ℕ
total t = t.same + t.different + t.unsettled

-- more than there are pairs
abbrev pub many_pairs : ℕ
many_pairs = 65536

-- The work area holds the field at the capacity of the census.
pub record Room (n : ℕ) (work : List ℕ) : Type 0 where
  pub short : n ≤ greatest_length
  pub room : slot_bytes * census_capacity ≤ length work

-- No number leaves its type.
pub record Few (t : Tally) : Type 0 where
  pub small : total t ≤ many_pairs

pub record MayAdd (t : Tally) (a b c : ℕ) : Type 0 where
  pub small : total t ≤ many_pairs
  pub one : a + b + c ≤ 1

pub record MayTallyRow (n row : ℕ) (kept work : List ℕ) (before : Tally) : Type 0 where
  pub room : Room n work
  pub few : length kept ≤ most_parts
  pub there : row < length kept
  pub small : total before + length kept ≤ many_pairs

pub record MayTallyPairs (n : ℕ) (kept work : List ℕ) : Type 0 where
  pub room : Room n work
  pub few : length kept ≤ most_parts
