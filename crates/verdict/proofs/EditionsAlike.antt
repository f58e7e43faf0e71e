-- Request 2026-05 on the promises of the exported operations: a converted question is judged and listed as the one it was made of, and converted
-- back it is the original. Assumes nothing.
use mathlib.Core.List.{List, ◌++◌}
use mathlib.Core.Path.{◌≡◌, refl, sym, ap, subst, ◌∙◌}
use native.Mathlib.Omega.{arith}
use Prim.Native.Nat.{ℕ, ◌≤◌}
use lib.ListN.{length, take, drop}
use lib.Seq.{take_at}
use Rattle.terms.specs.Answer.{Answer, refused, result, ◌>>=◌}
use Rattle.terms.specs.Edition.{Edition, other}
use Rattle.terms.specs.Operations.{convert_of, length_written, area_after}
use Rattle.terms.specs.Question.{question_of}
use Rattle.terms.proofs.Converting.{there_and_back, one_question}
use Rattle.steps.specs.Operations.{list_of}
use Rattle.steps.specs.Operations.{area_after as listingAfter}
use Rattle.verdict.specs.Judge.{judge_by, work_after}
use Rattle.verdict.specs.Outcome.{gave, turned_back, Says, of_number, of_verdict, of_listing, code_of}
use Rattle.verdict.specs.Promises.{StepsIs, ConvertIs, JudgesBy}
use Rattle.verdict.specs.Verdict.{Manner}
use Rattle.verdict.proofs.OutcomeLaws.{says_once}

-- The two are one question to judge, openly, late and early, and to listing: answers and every lent byte are the same.
pub record Alike (question next : List ℕ) : Type 0 where
  pub judged : (m : Manner) (capacity : ℕ) (work : List ℕ) (r s : ℕ) (after after' : List ℕ) → JudgesBy m question capacity work r after
      → JudgesBy m next capacity work s after'
      → (r ≡ s) × (after ≡ after')
  pub listed : (side name : ℕ) (area : List ℕ) (r s : ℕ) (after after' : List ℕ) → StepsIs question side name area r after → StepsIs next side name area s after'
      → (r ≡ s) × (after ≡ after')

pub same_question : (question next : List ℕ) → question_of next ≡ question_of question → Alike question next
unfolding judge_by list_of
same_question question next e = record {
  judged = λ m capacity work r s after after' p q.
      let same : judge_by m next capacity (length work) ≡ judge_by m question capacity (length work) = rw e in (
        p.answer.number ∙ sym (q.answer.number ∙ ap (λ m. code_of (of_verdict m)) same),
        p.left ∙ sym (q.left ∙ ap (λ m. work_after m capacity work) same),
      );
  listed = λ side name area r s after after' p q.
      let same : list_of next side name (length area) ≡ list_of question side name (length area) = rw e in (
        p.answer.number ∙ sym (q.answer.number ∙ ap (λ m. code_of (of_listing m)) same),
        p.left ∙ sym (q.left ∙ ap (λ m. listingAfter m area) same),
      );
}

gave-number : (n m : ℕ) → gave n ≡ gave m → n ≡ m
gave-number n m e = cc

not_turned : (n k : ℕ) → gave n ≡ turned_back k → ⊥
not_turned n k e = let z : ◌≡◌ {A = ℕ} 0 1 = cc in absurd (omega arith)

-- What a converter that answered a length has written.
pub written-by : (e : Edition) (question area : List ℕ) (r : ℕ) (after : List ℕ) → ConvertIs e question area r after → (n : ℕ) → Says r (gave n)
    → convert_of e question (length area) ≡ result (take n after)
unfolding of_number length_written area_after ◌>>=◌
written-by e question area r after C n s =
    go (convert_of e question (length area)) refl (says_once (gave n) _ s C.answer) C.left
  where
    go : (m : Answer (List ℕ)) → convert_of e question (length area) ≡ m → gave n ≡ of_number (length_written (convert_of e question (length area)))
        → after ≡ area_after (convert_of e question (length area)) area → convert_of e question (length area) ≡ result (take n after)
    go (refused k) h o l = absurd (not_turned n k (o ∙ ap (λ m. of_number (length_written m)) h))
    go (result next) h o l =
        let size = gave-number n (length next) (o ∙ ap (λ m. of_number (length_written m)) h) in
        let bytes : after ≡ next ++ drop (length next) area = l ∙ ap (λ m. area_after m area) h in
        h ∙ ap result (sym (ap (take n) bytes ∙ take_at next (drop (length next) area) n (sym size)))

-- Judging or listing either form gives one answer.
pub one_verdict : (e : Edition) (question area : List ℕ) (r : ℕ) (after : List ℕ) → ConvertIs e question area r after → (n : ℕ) → Says r (gave n)
    → Alike question (take n after)
one_verdict e question area r after C n s =
    same_question question (take n after) (one_question e question (take n after) (length area) (written-by e question area r after C n s))

-- There and back: the other converter gives the original bytes, wherever they have room.
pub back_again : (e : Edition) (question area : List ℕ) (r : ℕ) (after : List ℕ) → ConvertIs e question area r after → (n : ℕ) → Says r (gave n)
    → (area' : List ℕ) (s : ℕ) (after' : List ℕ) → ConvertIs (other e) (take n after) area' s after' → length question ≤ length area'
    → Says s (gave (length question)) × (after' ≡ question ++ drop (length question) area')
unfolding of_number length_written area_after ◌>>=◌
back_again e question area r after C n s area' t after' D l =
    let b = there_and_back e question (take n after) (length area) (length area') (written-by e question area r after C n s) l in (
      subst (λ (m : Answer (List ℕ)). Says t (of_number (length_written m))) b D.answer,
      D.left ∙ ap (λ m. area_after m area') b,
    )
