-- Demand 2, on the promise of the exported operation: what judge answers for an accepted question within the bounds of checks 1 and 2 is one of
-- three cases, and nothing else (says-once in OutcomeLaws). Assumes nothing.
use mathlib.Core.Path.{◌≡◌, refl, sym, ◌∙◌, subst}
use mathlib.Core.List.{List, ◌++◌}
use Prim.Native.Nat.{ℕ, ◌*◌, ◌≤◌}
use lib.ListN.{length, drop, replicate}
use Rattle.calculus.specs.Definitions.{Defs}
use Rattle.terms.specs.Answer.{Answer, refused, result}
use Rattle.terms.specs.Question.{Question, question_of}
use Rattle.terms.proofs.Answers.{result_injective, bind-result, bind_to}
use Rattle.terms.proofs.OwnEdition.{own_well_formed}
use Rattle.verdict.specs.Entries.{Defines}
use Rattle.verdict.specs.Judge.{judge_by, greatest_capacity, slot_bytes, work_after}
use Rattle.verdict.specs.Meaning.{Decision}
use Rattle.verdict.specs.Outcome.{turned_back, Says, of_verdict}
use Rattle.verdict.specs.Promises.{JudgesBy, JudgeIs}
use Rattle.verdict.specs.Verdict.{Manner, openly, Verdict, verdict_by, verdict_of}
use Rattle.verdict.proofs.CapacityLaws.{within_passes, passed_within}
use Rattle.verdict.proofs.VerdictIsDefinition13.{verdict_means}

-- What is known of an answered verdict.
pub record Answered (m : Manner) (hand : List ℕ) (capacity : ℕ) (work : List ℕ) (answer : ℕ) (after : List ℕ) : Type 0 where
  pub read : Question
  pub accepted : question_of hand ≡ result read
  pub says : Says answer (of_verdict (result (verdict_by m read capacity)))
  pub cleared : after ≡ replicate (slot_bytes * capacity) 0 ++ drop (slot_bytes * capacity) work

module _ {ℓ} (C : Type ℓ) where
  -- refused or answered
  pub judge_cases : (m : Manner) (hand : List ℕ) (capacity : ℕ) (work : List ℕ) (answer : ℕ) (after : List ℕ) → JudgesBy m hand capacity work answer after
      → ((k : ℕ) → judge_by m hand capacity (length work) ≡ refused k → Says answer (turned_back k) → after ≡ work → C)
      → (Answered m hand capacity work answer after → C) → C
  unfolding work_after judge_by of_verdict
  judge_cases m hand capacity work answer after j turned given = go (judge_by m hand capacity (length work)) refl j.answer j.left
    where
      go : (a : Answer Verdict) → judge_by m hand capacity (length work) ≡ a → Says answer (of_verdict a) → after ≡ work_after a capacity work → C
      go (refused k) e s f = turned k e s f
      go (result v) e s f =
          let (_, e₁) = passed_within capacity (slot_bytes * capacity) (length work) _ v e in
          let (q, a, e₂) = bind-result (question_of hand) _ v e₁ in
          let is : verdict_by m q capacity ≡ v = result_injective {a = verdict_by m q capacity} e₂ in
          given (record { read = q; accepted = a; says = subst (λ w. Says answer (of_verdict (result w))) (sym is) s; cleared = f })

-- within the bounds of checks 1 and 2 an accepted question is answered by its verdict
pub judge_answers : (m : Manner) (question : List ℕ) (q : Question) → question_of question ≡ result q → (capacity room : ℕ) → 1 ≤ capacity → capacity ≤ greatest_capacity
    → slot_bytes * capacity ≤ room → judge_by m question capacity room ≡ result (verdict_by m q capacity)
unfolding judge_by
judge_answers m question q a capacity room l g h =
    within_passes capacity (slot_bytes * capacity) room _ (record { some = l; most = g; fits = h }) ∙ bind_to _ a

pub judge_is_definition_13 : (question : List ℕ) (q : Question) → question_of question ≡ result q → (Δ : Defs) → Defines q Δ → (capacity : ℕ) (work : List ℕ)
    → 1 ≤ capacity → capacity ≤ greatest_capacity → slot_bytes * capacity ≤ length work → (answer : ℕ) (after : List ℕ)
    → JudgeIs question capacity work answer after → Decision openly Δ q capacity answer
judge_is_definition_13 question q a Δ d capacity work l g h answer after j =
    record {
      outcome = of_verdict (result (verdict_of q capacity));
      says = subst (λ m. Says answer (of_verdict m)) (judge_answers openly question q a capacity (length work) l g h) j.answer;
      means = verdict_means q (own_well_formed question q a) Δ d capacity;
    }
