-- What an answer means, in terms of Definition 13 and the limits alone.
use Rattle.std.specs.Prelude.{List, ◌++◌, ◌⊎◌, ◌≡◌, ℕ, ◌*◌, length, drop, replicate}
use Rattle.calculus.specs.Cond.{Pairs}
use Rattle.calculus.specs.Definitions.{Defs}
use Rattle.calculus.specs.OpenBisimulation.{Related}
use Rattle.terms.specs.Limits.{name_count}
use Rattle.terms.specs.Answer.{refused, result}
use Rattle.terms.specs.Question.{Question, question_of, pair_bytes}
use Rattle.verdict.specs.Entries.{Defines}
use Rattle.verdict.specs.Judge.{slot_bytes}
use Rattle.verdict.specs.Meaning.{Exceeds}
use Rattle.verdict.specs.Verdict.{openly}
use Rattle.verdict.specs.Outcome.{Outcome, gave, turned_back, unsettled_outcome, none_outcome, Says}
use Rattle.fewest.specs.Apart.{apart_of}
use Rattle.fewest.specs.Choices.{candidate_pairs, Choice, Earlier, enlarged, under_list}

module _ (Δ : Defs) (q : Question) (capacity : ℕ) (names : List ℕ) where
  -- c is one of the choices that the question and the names leave
  abbrev pub Chooses : Pairs → Type 0
  Chooses c = Choice c (candidate_pairs name_count names q.apart)

  -- the list of a choice
  abbrev pub list_of : Pairs → Pairs
  list_of c = enlarged name_count q.apart c

  -- some open bisimulation relates the two parts under the list of the choice
  abbrev pub RelatedUnder : Pairs → Type 1
  RelatedUnder c = Related Δ (list_of c) q.first q.second

  -- the question under the list of the choice exceeds a limit
  abbrev pub ExceedsUnder : Pairs → Type 0
  ExceedsUnder c = Exceeds openly Δ (under_list q (list_of c)) capacity

  -- The winner's parts are related under its list, and under the list of no choice before it. Where there is none, they are related under no
  -- choice. Unsettled exactly if some choice exceeds a limit.
  pub data FewestMeans (area : List ℕ) : Outcome → List ℕ → Type 1 where
    means_fewest : (c : Pairs) → Chooses c → RelatedUnder c
        → ((d : Pairs) → Chooses d → RelatedUnder d → (d ≡ c) ⊎ Earlier c d)
        → ((d : Pairs) → Chooses d → Earlier d c → ¬ RelatedUnder d)
        → ((d : Pairs) → Chooses d → ¬ ExceedsUnder d)
        → FewestMeans area (gave (length (pair_bytes (list_of c)))) (pair_bytes (list_of c) ++ drop (length (pair_bytes (list_of c))) area)
    means_none : ((d : Pairs) → Chooses d → ¬ RelatedUnder d) → ((d : Pairs) → Chooses d → ¬ ExceedsUnder d) → FewestMeans area none_outcome area
    means_unsettled : (d : Pairs) → Chooses d → ExceedsUnder d → FewestMeans area unsettled_outcome area

-- What is told by an operation that keeps its promise: refused with the number of the first check that turns back, no byte changed; or an answer
-- with this meaning, the work area cleared.
pub data Told (question : List ℕ) (capacity : ℕ) (names work area : List ℕ) (answer : ℕ) (work' area' : List ℕ) : Type 1 where
  not_searched : (k : ℕ) → apart_of question capacity names (length work) (length area) ≡ refused k → Says answer (turned_back k) → work' ≡ work
      → area' ≡ area → Told question capacity names work area answer work' area'
  searched : (q : Question) → question_of question ≡ result q → (o : Outcome) → Says answer o
      → ((Δ : Defs) → Defines q Δ → FewestMeans Δ q capacity names area o area')
      → work' ≡ replicate (slot_bytes * capacity) 0 ++ drop (slot_bytes * capacity) work
      → Told question capacity names work area answer work' area'
