-- Judge: checks 1 and 2, those of check, and the verdict. Assumes nothing.
use mathlib.Core.List.{List, ◌++◌}
use mathlib.Core.Path.{◌≡◌, sym, ap, ◌∙◌}
use native.Mathlib.Omega.{arith}
use Prim.Native.Nat.{ℕ, ◌*◌, ◌<◌}
use lib.ListN.{length, drop, replicate}
use Rattle.terms.specs.Answer.{Answer, refused, result, ◌>>=◌}
use Rattle.terms_bytes.specs.Writing.{IsAccepted}
use Rattle.terms_checks.specs.Checking.{checked_answer}
use Rattle.terms.specs.Operations.{check_answer}
use Rattle.terms.specs.Question.{Question, check_of, question_of}
use Rattle.std.specs.Prelude.{Result, Ok, Err, ⊤}
use Rattle.terms_bytes.specs.Refusals.{number_of}
use Rattle.terms_bytes.specs.declared.answer.Refusal.{Refusal}
use Rattle.terms.proofs.Answers.{bind-result, bind_to}
use Rattle.verdict.specs.Judge.{slot_bytes, within_capacity, judge_by, work_after}
use Rattle.verdict.proofs.CapacityLaws.{Within, within_of, within_passes}
use Rattle.verdict_capacity.specs.Capacities.{capacity_answer}
use Rattle.verdict_capacity.proofs.CapacityAnswers.{capacity-refused, capacity_passed}
use Rattle.verdict_judge.specs.Judging.{judged_answer, DecidesIs, AcceptedIs, OwnIs, JudgedIs}
use Rattle.verdict.specs.Verdict.{Manner, verdict_by}
use Rattle.verdict_judge.specs.declared.judge.Verdict as told

-- judge_accepted
pub cleared : (manner : Manner) (question : List ℕ) (capacity : ℕ) (work w u : List ℕ) (r : told.Verdict) → DecidesIs manner question capacity work r w
    → u ≡ replicate (slot_bytes * capacity) 0 ++ drop (slot_bytes * capacity) w → AcceptedIs manner question capacity work r u
cleared manner question capacity work w u r d e = record {
  left = e ∙ ap (λ l. replicate (slot_bytes * capacity) 0 ++ l) d.rest;
  is = d.is;
}

-- judge_either: the verdict is that of the edition-one form
pub own_of_plain : (manner : Manner) (question plain : List ℕ) (capacity : ℕ) (work : List ℕ) (r : told.Verdict) (work' : List ℕ) (q : Question) → question_of question ≡ result q
    → check_of plain ≡ result q → AcceptedIs manner plain capacity work r work' → OwnIs manner question capacity work r work'
own_of_plain manner question plain capacity work r work' q own e a = record { left = a.left; is = λ p h. a.is p (e ∙ sym own ∙ h) }

module _ (manner : Manner) (question : List ℕ) (capacity : ℕ) (work : List ℕ) where
  -- a refusal changes nothing
  turned_back_lem : (k : Refusal) → judge_by manner question capacity (length work) ≡ refused (number_of k) → JudgedIs manner question capacity work (Err k) work
  unfolding judged_answer work_after
  turned_back_lem k e = record { answer = sym e; left = sym (ap (λ a. work_after a capacity work) e) }

  module _ (c : Result ⊤ Refusal) (capacity-check : capacity_answer c ≡ within_capacity capacity (slot_bytes * capacity) (length work)) where
    pub not_within : (k : Refusal) → c ≡ Err k → JudgedIs manner question capacity work (Err k) work
    unfolding judge_by
    not_within k h = turned_back_lem k (capacity-refused c (within_capacity capacity (slot_bytes * capacity) (length work)) capacity-check _ k h)

    module _ (u : ⊤) (passed : c ≡ Ok u) where
      pub within : Within capacity (slot_bytes * capacity) (length work)
      within = within_of capacity (slot_bytes * capacity) (length work) tt (capacity_passed c _ capacity-check u passed)

      checks_passed : judge_by manner question capacity (length work) ≡ (question_of question >>= λ q. result (verdict_by manner q capacity))
      unfolding judge_by
      checks_passed = within_passes capacity (slot_bytes * capacity) (length work) _ within

      pub question_refused : (k : Refusal) (r : Result ⊤ Refusal) → check_answer question ≡ checked_answer r → r ≡ Err k → JudgedIs manner question capacity work (Err k) work
      unfolding check_answer checked_answer ◌>>=◌
      question_refused k r e h = turned_back_lem k (checks_passed ∙ go (question_of question) (e ∙ ap checked_answer h))
        where
          go : (m : Answer Question) → ◌>>=◌ {B = ℕ} m (λ q. result 0) ≡ refused (number_of k) → (m >>= λ q. result (verdict_by manner q capacity)) ≡ refused (number_of k)
          go (refused j) e = ap refused (cc)
          go (result q) e = let z : ◌≡◌ {A = ℕ} 0 1 = cc in absurd (omega arith)

      pub question_accepted : (c : Result ⊤ Refusal) (v : ⊤) (r : told.Verdict) (u : List ℕ) → check_answer question ≡ checked_answer c → c ≡ Ok v
          → OwnIs manner question capacity work r u → JudgedIs manner question capacity work (Ok r) u
      unfolding check_answer checked_answer judged_answer work_after
      question_accepted c v r u e h a =
          let (q, d, z) = bind-result (question_of question) (λ q. result 0) 0 (e ∙ ap checked_answer h) in
          let v : judge_by manner question capacity (length work) ≡ result (verdict_by manner q capacity) = checks_passed ∙ bind_to (λ q. result (verdict_by manner q capacity)) d in
          record { answer = ap result (a.is q d) ∙ sym v; left = a.left ∙ sym (ap (λ x. work_after x capacity work) v) }

pub accepted_either : (question : List ℕ) (c : Result ⊤ Refusal) (v : ⊤) → check_answer question ≡ checked_answer c → c ≡ Ok v → IsAccepted question
unfolding check_answer checked_answer IsAccepted
accepted_either question c v e h = let (q, d, z) = bind-result (question_of question) (λ q. result 0) 0 (e ∙ ap checked_answer h) in (q, d)
