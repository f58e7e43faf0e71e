-- The verdict: document 01, "The field and the verdict". Situations with a demand that those left do not meet are struck out, round by round, until a
-- round strikes out none; the parts are the same if the start is left. That this is Definition 13, and where all names differ Definitions 7 to 10,
-- are theorems (proofs/VerdictIsDefinition13, VerdictsAreDefinitions7To10).
use Rattle.std.specs.Prelude.{Bool, true, false, cond, ◌&&◌, ◌||◌, List, [], ◌∷◌, map, ◌⊎◌, ◌≡◌, ℕ, zero, suc, length, eqb}
use Rattle.calculus.specs.Term.{Term}
use Rattle.terms.specs.Question.{Question}
use Rattle.steps.specs.Forms.{result_form}
use Rattle.late_early.specs.LateEarly.{Kind}
use Rattle.field.specs.Setting.{Setting, setting_with, setting_in, setting_of}
use Rattle.field.specs.Situation.{Situation, start_with, start_in, start_of}
use Rattle.field.specs.Successors.{select}
use Rattle.field.specs.Exploration.{found, Row, Exploration, incomplete, explored, field_of}
use Rattle.verdict.specs.Received.{named_demands}

-- Judged openly, by Definition 13, or, where all names differ, by Definitions 7 to 10 (request 2026-02).
pub data Manner : Type 0 where
  openly : Manner
  named : Kind → Manner

unfoldable pub differs : Manner → Bool
differs openly = false
differs (named k) = true

-- What is demanded for a situation to be left: for each demand the answers that meet it, and for each answer the situations that must all be left.
-- Openly, an answer to a permitted step leads to one situation.
unfoldable pub demands_of : Manner → Setting → Row → List (List (List Situation))
demands_of openly S r = map (map (λ t. t ∷ [])) r.wants
demands_of (named k) S r = named_demands k S r.self

-- all situations of an answer are left
unfoldable pub all_found : List Situation → List Situation → Bool
all_found left [] = true
all_found left (s ∷ l) = found left s && all_found left l

-- some answer is left
unfoldable pub answered : List Situation → List (List Situation) → Bool
answered left [] = false
answered left (l ∷ ls) = all_found left l || answered left ls

-- every demand is met
unfoldable pub all_answered : List Situation → List (List (List Situation)) → Bool
all_answered left [] = true
all_answered left (m ∷ ms) = answered left m && all_answered left ms

module _ (demands : Row → List (List (List Situation))) where
  -- one round
  unfoldable pub strike : List Row → List Row
  strike rs = let left = map (λ r. r.self) rs in select (λ r. all_answered left (demands r)) rs

  -- rounds until one strikes out none; as many as there are situations are enough
  unfoldable pub rounds : ℕ → List Row → List Row
  rounds zero rs = rs
  rounds (suc n) rs = let rest = strike rs in cond (eqb (length rest) (length rs)) rs (rounds n rest)

pub data Verdict : Type 0 where
  unsettled : Verdict
  same different : ℕ → Verdict

-- the verdict says same or different, with the number n
abbrev pub Numbered : Verdict → ℕ → Type 0
Numbered v n = (v ≡ same n) ⊎ (v ≡ different n)

-- n is the size of the field
unfoldable pub decided : (Row → List (List (List Situation))) → Situation → Exploration → Verdict
decided demands start incomplete = unsettled
decided demands start (explored rs) =
    let n = length rs in
    cond (found (map (λ r. r.self) (rounds demands n rs)) start) (same n) (different n)

abbrev pub verdict_from : Manner → Setting → Situation → ℕ → Verdict
verdict_from m S start capacity = decided (demands_of m S) start (field_of S capacity start)

-- over another number of names
unfoldable pub verdict_with : ℕ → Manner → Question → ℕ → Verdict
verdict_with names m q capacity =
    verdict_from m (setting_with names result_form (differs m) q.bodies) (start_with names result_form (differs m) q) capacity

-- results in the form given
unfoldable pub verdict_in : (Term → Term) → Manner → Question → ℕ → Verdict
verdict_in form m q capacity = verdict_from m (setting_in form (differs m) q.bodies) (start_in form (differs m) q) capacity

unfoldable pub verdict_by : Manner → Question → ℕ → Verdict
unfolding verdict_in setting_of start_of
verdict_by m q capacity = verdict_in result_form m q capacity

-- the open one
abbrev pub verdict_of : Question → ℕ → Verdict
verdict_of q capacity = verdict_by openly q capacity
