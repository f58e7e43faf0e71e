-- Request 2026-05 on the promise of `exchange_apart`: it answers alike for a question and for what a converter makes of it, and leaves the same bytes
-- in both areas. Assumes nothing.
use mathlib.Core.List.{List}
use mathlib.Core.Path.{◌≡◌, sym, ap, ◌∙◌}
use Prim.Native.Nat.{ℕ}
use lib.ListN.{length, take}
use Rattle.terms.specs.Edition.{Edition}
use Rattle.terms.specs.Question.{question_of}
use Rattle.terms.proofs.Converting.{one_question}
use Rattle.verdict.specs.Outcome.{gave, Says, code_of}
use Rattle.verdict.specs.Promises.{ConvertIs}
use Rattle.verdict.proofs.EditionsAlike.{written-by}
use Rattle.fewest.specs.Apart.{apart_of, of_fewest, work_after, area_after, ApartIs}

-- The two are one question to the search for the fewest pairs: the answer and every lent byte are the same.
pub record ApartAlike (question next : List ℕ) : Type 0 where
  pub answered : (capacity : ℕ) (names work area : List ℕ) (r s : ℕ) (workThen workNext areaThen areaNext : List ℕ)
      → ApartIs question capacity names work area r workThen areaThen → ApartIs next capacity names work area s workNext areaNext
      → (r ≡ s) × (workThen ≡ workNext) × (areaThen ≡ areaNext)

pub same_question_apart : (question next : List ℕ) → question_of next ≡ question_of question → ApartAlike question next
unfolding apart_of
same_question_apart question next e = record {
  answered = λ capacity names work area r s workThen workNext areaThen areaNext p q.
      let same : apart_of next capacity names (length work) (length area) ≡ apart_of question capacity names (length work) (length area) = rw e in (
        p.answer.number ∙ sym (q.answer.number ∙ ap (λ m. code_of (of_fewest m)) same),
        p.cleared ∙ sym (q.cleared ∙ ap (λ m. work_after m capacity work) same),
        p.left ∙ sym (q.left ∙ ap (λ m. area_after m area) same),
      );
}

-- Either form of one question has the same fewest pairs, none, or is unsettled.
pub one_fewest : (e : Edition) (question area : List ℕ) (r : ℕ) (after : List ℕ) → ConvertIs e question area r after → (n : ℕ) → Says r (gave n)
    → ApartAlike question (take n after)
one_fewest e question area r after C n s =
    same_question_apart question (take n after) (one_question e question (take n after) (length area) (written-by e question area r after C n s))
