-- What an answer of judge means: demand 2, in terms of Definition 13, the field and its limits alone; and what a late or an early answer means, in terms
-- of Definitions 7 to 10.
use Rattle.std.specs.Prelude.{ℕ}
use Rattle.calculus.specs.Definitions.{Defs}
use Rattle.late_early.specs.LateEarly.{Bisimilar}
use Rattle.calculus.specs.OpenBisimulation.{Related}
use Rattle.terms.specs.Question.{Question}
use Rattle.field.specs.Field.{PastLimit, FieldSize}
use Rattle.field.specs.Setting.{setting_of}
use Rattle.field.specs.Situation.{start_of}
use Rattle.verdict.specs.Outcome.{Outcome, unsettled_outcome, same_of, different_of, Says}
use Rattle.verdict.specs.Verdict.{Manner, openly, named, differs}

-- some open bisimulation relates the two parts under the pairs of the apart list; or some late, or early, bisimulation does
abbrev pub PartsRelated : Manner → Defs → Question → Type 1
PartsRelated openly Δ q = Related Δ q.apart q.first q.second
PartsRelated (named k) Δ q = Bisimilar Δ k q.first q.second

module _ (m : Manner) (Δ : Defs) (q : Question) where
  -- the question exceeds a limit for this capacity
  abbrev pub Exceeds : ℕ → Type 0
  Exceeds capacity = PastLimit Δ (setting_of (differs m) q.bodies) (start_of (differs m) q) capacity

  -- its field has n situations
  abbrev pub HasField : ℕ → Type 0
  HasField n = FieldSize Δ (setting_of (differs m) q.bodies) (start_of (differs m) q) n

  -- "Same" and "different" within the limits, by the definitions, with the size of the field; "unsettled" past a limit, and at no other time.
  pub data Means (capacity : ℕ) : Outcome → Type 1 where
    means_same : (n : ℕ) → ¬ Exceeds capacity → PartsRelated m Δ q → HasField n → Means capacity (same_of n)
    means_different : (n : ℕ) → ¬ Exceeds capacity → ¬ PartsRelated m Δ q → HasField n → Means capacity (different_of n)
    means_unsettled : Exceeds capacity → Means capacity unsettled_outcome

-- what an answer says and means
pub record Decision (m : Manner) (Δ : Defs) (q : Question) (capacity answer : ℕ) : Type 1 where
  pub outcome : Outcome
  pub says : Says answer outcome
  pub means : Means m Δ q capacity outcome
