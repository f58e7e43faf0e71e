-- Words by their numbers, and which of them are parts of the census.
use Rattle.std.specs.Prelude.{Bool, true, false, cond, List, [], ◌∷◌, ◌++◌, ◌≡◌, ℕ, zero, suc, ◌+◌, ◌*◌, ◌/◌, ◌%◌, ◌≤◌, ◌<◌, ltb, length, set}
use Rattle.std.proofs.lemmas.List.Edits.{sets}
use Rattle.calculus.specs.Term.{Term}
use Rattle.terms.specs.Answer.{Answer, refused, result}
use Rattle.terms.specs.Grammar.{parallel_outermost}
use Rattle.terms.specs.Edition.{one}
use Rattle.terms.specs.Reading.{numbered, read_whole}
use Rattle.small_parts.specs.Census.{free_names, greatest_length}

-- The bytes that a part of at most five bytes can have: 00 to 09 and 80 to 84.
abbrev pub byte_count : ℕ
byte_count = 15

unfoldable pub byte_of : ℕ → ℕ
byte_of digit = cond (ltb digit 10) digit (digit + 118)

-- The word of n bytes whose number is k.
unfoldable pub word_of : ℕ → ℕ → List ℕ
word_of zero k = []
word_of (suc n) k = byte_of (k % byte_count) ∷ word_of n (k / byte_count)

-- how many there are
unfoldable pub word_count : ℕ → ℕ
word_count zero = 1
word_count (suc n) = byte_count * word_count n

unfoldable pub has_outermost : Answer Term → Bool
has_outermost (refused k) = false
has_outermost (result P) = parallel_outermost P

-- checks 7 to 10 of a part without definitions
unfoldable pub is_part : List ℕ → Bool
is_part bytes = has_outermost (read_whole one (numbered []) free_names 0 bytes)

-- The numbers below k of the words of n bytes that are parts, ascending.
unfoldable pub parts_below : ℕ → ℕ → List ℕ
parts_below n zero = []
parts_below n (suc k) = parts_below n k ++ cond (is_part (word_of n k)) (k ∷ []) []

unfoldable pub part_numbers : ℕ → List ℕ
part_numbers n = parts_below n (word_count n)

-- no length up to the greatest has more
abbrev pub most_parts : ℕ
most_parts = 209

-- Before a word is looked at, as many numbers are kept as there were parts before it.
pub record MayKeep (n number : ℕ) (kept : List ℕ) (count : ℕ) : Type 0 where
  pub short : n ≤ greatest_length
  pub few : count ≤ 759375
  pub room : is_part (word_of n number) ≡ true → count < length kept

pub record KeepsIs (n number : ℕ) (kept : List ℕ) (count r : ℕ) (kept' : List ℕ) : Type 0 where
  pub answer : r ≡ cond (is_part (word_of n number)) (count + 1) count
  pub left : kept' ≡ cond (is_part (word_of n number)) (set kept count number) kept

pub record CollectsIs (n : ℕ) (kept : List ℕ) (r : ℕ) (kept' : List ℕ) : Type 0 where
  pub answer : r ≡ length (part_numbers n)
  pub left : kept' ≡ sets kept 0 (part_numbers n)
