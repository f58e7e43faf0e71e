-- What check, listing, merge, beside, the converters, judge and the late and the early verdict promise: the answer and every lent byte. The
-- contracts of the exported operations are these. The answer is a number that says one outcome and no other (proofs/OutcomeLaws).
use Rattle.std.specs.Prelude.{◌≡◌, List, ℕ, length}
use Rattle.late_early.specs.LateEarly.{late, early}
use Rattle.terms.specs.Operations.{check_answer, merge_of, beside_of, convert_of, length_written, area_after}
use Rattle.terms.specs.Edition.{Edition}
use Rattle.steps.specs.Operations.{list_of}
use Rattle.steps.specs.Operations.{area_after as listingAfter}
use Rattle.verdict.specs.Judge.{judge_by, work_after}
use Rattle.verdict.specs.Verdict.{Manner, openly, named}
use Rattle.verdict.specs.Outcome.{Says, of_number, of_listing, of_verdict}

pub record CheckIs (question : List ℕ) (r : ℕ) : Type 0 where
  pub answer : Says r (of_number (check_answer question))

pub record StepsIs (question : List ℕ) (side name : ℕ) (area : List ℕ) (r : ℕ) (after : List ℕ) : Type 0 where
  pub answer : Says r (of_listing (list_of question side name (length area)))
  pub left : after ≡ listingAfter (list_of question side name (length area)) area

pub record MergeIs (question : List ℕ) (a b : ℕ) (area : List ℕ) (r : ℕ) (after : List ℕ) : Type 0 where
  pub answer : Says r (of_number (length_written (merge_of question a b (length area))))
  pub left : after ≡ area_after (merge_of question a b (length area)) area

pub record BesideIs (question third area : List ℕ) (r : ℕ) (after : List ℕ) : Type 0 where
  pub answer : Says r (of_number (length_written (beside_of question third (length area))))
  pub left : after ≡ area_after (beside_of question third (length area)) area

-- the converter that writes edition e
pub record ConvertIs (e : Edition) (question area : List ℕ) (r : ℕ) (after : List ℕ) : Type 0 where
  pub answer : Says r (of_number (length_written (convert_of e question (length area))))
  pub left : after ≡ area_after (convert_of e question (length area)) area

-- judge, openly, late or early
pub record JudgesBy (m : Manner) (question : List ℕ) (capacity : ℕ) (work : List ℕ) (r : ℕ) (after : List ℕ) : Type 0 where
  pub answer : Says r (of_verdict (judge_by m question capacity (length work)))
  pub left : after ≡ work_after (judge_by m question capacity (length work)) capacity work

abbrev pub JudgeIs : List ℕ → ℕ → List ℕ → ℕ → List ℕ → Type 0
JudgeIs question capacity work r after = JudgesBy openly question capacity work r after

-- request 2026-02
abbrev pub LateIs : List ℕ → ℕ → List ℕ → ℕ → List ℕ → Type 0
LateIs question capacity work r after = JudgesBy (named late) question capacity work r after

abbrev pub EarlyIs : List ℕ → ℕ → List ℕ → ℕ → List ℕ → Type 0
EarlyIs question capacity work r after = JudgesBy (named early) question capacity work r after
