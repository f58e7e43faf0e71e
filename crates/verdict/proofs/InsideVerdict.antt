-- Request 2026-13 of document 02 on questions: "same" carries into every larger exchange that is accepted, whatever the capacities. Assumes nothing.
use mathlib.Core.Path.{◌≡◌, sym, subst}
use mathlib.Core.List.{List}
use Prim.Native.Nat.{ℕ}
use lib.ListN.{get_or}
use Rattle.calculus.specs.Definitions.{Defs}
use Rattle.calculus.specs.OpenBisimulation.{Related}
use Rattle.calculus.proofs.Theorems.{related_larger, inside_related}
use Rattle.terms.specs.Answer.{result}
use Rattle.terms.specs.Question.{Question, question_of, body_of}
use Rattle.terms.proofs.OwnEdition.{accepted_once}
use Rattle.verdict.specs.Verdict.{openly, same, verdict_of}
use Rattle.verdict.specs.Outcome.{same_of, Says}
use Rattle.verdict.specs.Promises.{JudgeIs}
use Rattle.verdict.specs.Entries.{Defines, RelatedParts}
use Rattle.verdict.specs.NeverDifferent.{SameOrUnsettled, NeverDifferent}
use Rattle.verdict.specs.Larger.{LargerQuestion}
use Rattle.verdict.proofs.NeverDifferentLaws.{apart_of_lem, judged-same, same_or_unsettled, never_different}
use Rattle.verdict.proofs.RelatedVerdicts.{same_related_parts}

larger_defines : {q larger : Question} → LargerQuestion q larger → (Δ : Defs) → Defines q Δ → Defines larger Δ
larger_defines l Δ d = record {
  arities = λ k. subst (λ as'. Δ.arity k ≡ get_or as' k 0) (sym l.arities) (d.arities k);
  bodies = subst (λ bs. Δ.body ≡ body_of bs) (sym l.bodies) d.bodies;
}

module _ (question larger : List ℕ) (q q' : Question) (accepted : question_of question ≡ result q) (accepted' : question_of larger ≡ result q')
    (l : LargerQuestion q q') where
  pub inside-parts : RelatedParts question → RelatedParts larger
  inside-parts r =
      let Δ : Defs = r.definitions in
      let e : r.read ≡ q = accepted_once question r.read q r.accepted accepted in
      let h : Related Δ q.apart q.first q.second = subst (λ p. Related Δ p.apart p.first p.second) e r.related in
      record {
        read = q';
        accepted = accepted';
        definitions = Δ;
        defines = larger_defines l Δ (subst (λ p. Defines p Δ) e r.defines);
        related = related_larger Δ (inside_related Δ l.inside h) q'.apart (apart_of_lem larger q' accepted') l.apart;
      }

  -- of the verdict: "same" inside, then "same" or, beyond the limits, "unsettled"
  pub inside_verdict : (capacity capacity' n : ℕ) → verdict_of q capacity ≡ same n → SameOrUnsettled (verdict_of q' capacity')
  inside_verdict capacity capacity' n e =
      same_or_unsettled larger q' accepted' (inside-parts (same_related_parts question q accepted capacity n e)) capacity'

  -- of the exported judge: once it answers "same" for the smaller question, it never answers "different" for the larger
  pub inside_never_different : (capacity : ℕ) (work : List ℕ) (r : ℕ) (after : List ℕ) → JudgeIs question capacity work r after
      → (n : ℕ) → Says r (same_of n) → NeverDifferent larger
  inside_never_different capacity work r after j n s =
      never_different larger q' accepted'
      (inside-parts (same_related_parts question q accepted capacity n (judged-same question q accepted openly capacity work r after j n s)))
