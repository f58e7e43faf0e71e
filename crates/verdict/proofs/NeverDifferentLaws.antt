-- Related parts are never called different: by the verdict, and by whatever judge answers. Assumes nothing.
use mathlib.Core.Path.{◌≡◌, refl, subst}
use mathlib.Core.List.{List}
use mathlib.Core.Logic.{◌⊎◌, inl, inr}
use Prim.Native.Nat.{ℕ}
use native.Mathlib.Omega.{arith}
use Rattle.calculus.specs.Definitions.{Defs}
use Rattle.calculus.specs.Distinction.{Irr}
use Rattle.calculus.specs.OpenBisimulation.{Related}
use Rattle.terms.specs.Answer.{result}
use Rattle.terms.specs.Question.{Question, question_of}
use Rattle.terms.proofs.ApartLaws.{apart_irreflexive}
use Rattle.terms.proofs.OwnEdition.{own_well_formed, accepted_once}
use Rattle.steps.proofs.QuestionDefinitions.{definitions}
use Rattle.verdict.specs.Verdict.{Manner, openly, verdict_by, Verdict, unsettled, same, different, verdict_of}
use Rattle.verdict.specs.Outcome.{Outcome, turned_back, unsettled_outcome, same_of, different_of, Says, of_verdict}
use Rattle.verdict.specs.Promises.{JudgesBy, JudgeIs}
use Rattle.verdict.specs.Entries.{RelatedParts}
use Rattle.verdict.specs.NeverDifferent.{SameOrUnsettled, is_same_case, is_unsettled_case, NeverDifferent}
use Rattle.verdict.proofs.JudgeIsDefinition13.{judge_cases}
use Rattle.verdict.proofs.ListOfEntries.{outcome_same, outcome_different}
use Rattle.verdict.proofs.OutcomeLaws.{says_once}
use Rattle.verdict.proofs.RelatedVerdicts.{question_defines, related_never_different}

said : (s : ℕ) {v : Verdict} → SameOrUnsettled v → Says s (of_verdict (result v)) → ((n : ℕ) × Says s (same_of n)) ⊎ Says s unsettled_outcome
unfolding of_verdict
said s (is_same_case n) t = inl (n, t)
said s is_unsettled_case t = inr t

module _ (question : List ℕ) (q : Question) (accepted : question_of question ≡ result q) where
  pub apart_of_lem : Irr q.apart
  apart_of_lem = apart_irreflexive q.apart (own_well_formed question q accepted).apart

  -- parts that are related whatever the definitions
  pub related_parts : ((Δ : Defs) → Related Δ q.apart q.first q.second) → RelatedParts question
  related_parts r =
      let w = (own_well_formed question q accepted).bodies in
      let Δ : Defs = definitions q.arities q.bodies w in
      record { read = q; accepted = accepted; definitions = Δ; defines = question_defines q w; related = r Δ }

  -- A judging that answers "same" or "different" gives the verdict.
  judged_outcome : (m : Manner) (capacity : ℕ) (work : List ℕ) (r : ℕ) (after : List ℕ) → JudgesBy m question capacity work r after
      → (o : Outcome) → ((k : ℕ) → ¬ (turned_back k ≡ o)) → Says r o → of_verdict (result (verdict_by m q capacity)) ≡ o
  judged_outcome m capacity work r after j o h s =
      judge_cases (of_verdict (result (verdict_by m q capacity)) ≡ o) m question capacity work r after j
      (λ k e t f. absurd (h k (says_once (turned_back k) o t s)))
      (λ a. subst (λ z. of_verdict (result (verdict_by m z capacity)) ≡ o) (accepted_once question a.read q a.accepted accepted)
      (says_once (of_verdict (result (verdict_by m a.read capacity))) o a.says s))

  pub judged-same : (m : Manner) (capacity : ℕ) (work : List ℕ) (r : ℕ) (after : List ℕ) → JudgesBy m question capacity work r after
      → (n : ℕ) → Says r (same_of n) → verdict_by m q capacity ≡ same n
  judged-same m capacity work r after j n s =
      outcome_same (verdict_by m q capacity) n
      (judged_outcome m capacity work r after j (same_of n) (λ k e. let z : ◌≡◌ {A = ℕ} 0 1 = cc in absurd (omega arith)) s)

  pub judged_different : (m : Manner) (capacity : ℕ) (work : List ℕ) (r : ℕ) (after : List ℕ) → JudgesBy m question capacity work r after
      → (n : ℕ) → Says r (different_of n) → verdict_by m q capacity ≡ different n
  judged_different m capacity work r after j n s =
      outcome_different (verdict_by m q capacity) n
      (judged_outcome m capacity work r after j (different_of n) (λ k e. let z : ◌≡◌ {A = ℕ} 0 1 = cc in absurd (omega arith)) s)

  module _ (r : RelatedParts question) where
    pub same_or_unsettled : (capacity : ℕ) → SameOrUnsettled (verdict_of q capacity)
    same_or_unsettled capacity = go (verdict_of q capacity) refl
      where
        go : (v : Verdict) → verdict_of q capacity ≡ v → SameOrUnsettled v
        go unsettled e = is_unsettled_case
        go (same n) e = is_same_case n
        go (different n) e = absurd (related_never_different question q accepted capacity n r e)

    answered : (capacity : ℕ) (work : List ℕ) (s : ℕ) (after : List ℕ) → JudgeIs question capacity work s after
        → ((k : ℕ) → ¬ Says s (turned_back k)) → ((n : ℕ) × Says s (same_of n)) ⊎ Says s unsettled_outcome
    answered capacity work s after j h =
        judge_cases (((n : ℕ) × Says s (same_of n)) ⊎ Says s unsettled_outcome) openly question capacity work s after j (λ k e t f. absurd (h k t))
        (λ a. said s (same_or_unsettled capacity)
        (subst (λ z. Says s (of_verdict (result (verdict_of z capacity)))) (accepted_once question a.read q a.accepted accepted) a.says))

    pub never_different : NeverDifferent question
    never_different = record {
      never = λ capacity work s after j n t.
          related_never_different question q accepted capacity n r (judged_different openly capacity work s after j n t);
      answers = answered;
    }
