-- Request 2026-07 of document 02 on questions: two parts that differ in the order of their pieces, under any apart list. Assumes nothing.
use mathlib.Core.Path.{◌≡◌}
use mathlib.Core.List.{List}
use Prim.Native.Nat.{ℕ}
use Rattle.calculus.specs.Rearranged.{Rearranged}
use Rattle.calculus.proofs.Theorems.{related_rearranged}
use Rattle.terms.specs.Answer.{result}
use Rattle.terms.specs.Question.{Question, question_of}
use Rattle.verdict.specs.Verdict.{verdict_of}
use Rattle.verdict.specs.Entries.{RelatedParts}
use Rattle.verdict.specs.NeverDifferent.{SameOrUnsettled, NeverDifferent}
use Rattle.verdict.proofs.NeverDifferentLaws.{apart_of_lem, related_parts, same_or_unsettled, never_different}

module _ (question : List ℕ) (q : Question) (accepted : question_of question ≡ result q) (rearranged : Rearranged q.first q.second) where
  pub rearranged_parts : RelatedParts question
  rearranged_parts = related_parts question q accepted (λ Δ. related_rearranged Δ q.apart (apart_of_lem question q accepted) rearranged)

  -- the verdict is "same" or, beyond the limits, "unsettled"
  pub rearranged_verdict : (capacity : ℕ) → SameOrUnsettled (verdict_of q capacity)
  rearranged_verdict = same_or_unsettled question q accepted rearranged_parts

  -- and so is what the exported judge answers
  pub rearranged_never_different : NeverDifferent question
  rearranged_never_different = never_different question q accepted rearranged_parts
