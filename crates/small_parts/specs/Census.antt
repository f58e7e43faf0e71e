-- The census of small parts: document 02, request 2026-14. For a length, the ordered pairs of accepted parts of exactly that many bytes are counted by
-- their verdict. Free names are 0 and 1, there are no definitions, and nothing is held apart.
use Rattle.std.specs.Prelude.{true, List, [], ◌≡◌, ℕ, ◌+◌, ◌*◌, length}
use Rattle.calculus.specs.Term.{Term}
use Rattle.terms.specs.Answer.{Answer, result, ◌>>=◌}
use Rattle.terms.specs.Framing.{joined}
use Rattle.terms.specs.Grammar.{parallel_outermost}
use Rattle.terms.specs.Question.{question_of}
use Rattle.terms.specs.Edition.{one}
use Rattle.terms.specs.Reading.{numbered, read_whole}
use Rattle.verdict.specs.Verdict.{Verdict, unsettled, same, different, verdict_of}
use Rattle.small_parts.specs.Counted.{Counted}

-- the free names that a part may have: 0 and 1
abbrev pub free_names : ℕ
free_names = 2

abbrev pub census_capacity : ℕ
census_capacity = 186

-- the greatest length
abbrev pub greatest_length : ℕ
greatest_length = 5

-- The bytes of an accepted part of n bytes, without definitions: checks 7 to 10, with those free names alone.
pub record SmallPart (n : ℕ) (bytes : List ℕ) : Type 0 where
  pub term : Term
  pub reads : read_whole one (numbered []) free_names 0 bytes ≡ result term
  pub outermost : parallel_outermost term ≡ true
  pub size : length bytes ≡ n

-- the question about two parts, of edition one: no definitions, an empty apart list
unfoldable pub asked : List ℕ → List ℕ → List ℕ
asked first second = joined one (record { arities = []; bodies = []; first = first; second = second; apart = [] })

unfoldable pub verdict_on : List ℕ → List ℕ → Answer Verdict
verdict_on first second = do
  question ← question_of (asked first second)
  result (verdict_of question census_capacity)

-- What a verdict says, without the size of the field.
pub data Kind : Type 0 where
  is_same isDifferent is_unsettled : Kind

unfoldable pub kind_of : Verdict → Kind
kind_of (same n) = is_same
kind_of (different n) = isDifferent
kind_of unsettled = is_unsettled

-- An ordered pair of parts of n bytes whose verdict is of this kind.
pub record PairOf (n : ℕ) (kind : Kind) (pair : List ℕ × List ℕ) : Type 0 where
  pub first : SmallPart n pair.0
  pub second : SmallPart n pair.1
  pub verdict : Verdict
  pub judged : verdict_on pair.0 pair.1 ≡ result verdict
  pub says : kind_of verdict ≡ kind

-- The line of the census for the length n: each number equals its definition, the three add up to the square of the number of parts, and the third
-- is nought.
pub record CensusIs (n sames differents unsettleds : ℕ) : Type 0 where
  pub parts : ℕ
  pub number_of_parts : Counted (SmallPart n) parts
  pub same : Counted (PairOf n is_same) sames
  pub different : Counted (PairOf n isDifferent) differents
  pub unsettled : Counted (PairOf n is_unsettled) unsettleds
  pub add_up : sames + differents + unsettleds ≡ parts * parts
  pub nought : unsettleds ≡ 0
