-- A question is judged as the one with tidied bodies is (document 02, request 2026-04). Assumes nothing.
use mathlib.Core.List.{List}
use mathlib.Core.Path.{◌≡◌, sym, ap, ◌∙◌}
use Prim.Native.Nat.{ℕ}
use lib.ListN.{take}
use Rattle.terms.specs.Answer.{result}
use Rattle.terms.specs.Question.{Question, check_of}
use Rattle.terms.proofs.WellFormed.{accepted_well_formed}
use Rattle.terms_tidied.specs.TidiedBodies.{tidied_bodies, WritesTidied}
use Rattle.steps.specs.Forms.{result_form}
use Rattle.steps_lister.proofs.TidiedBodies.{tidied_checked}
use Rattle.verdict.specs.Verdict.{Manner, verdict_by}
use Rattle.verdict.proofs.TidiedVerdict.{bodies_verdict}
use Rattle.verdict_judge.specs.Judging.{AcceptedIs}
use Rattle.verdict_judge.specs.declared.judge.Verdict as told

verdict_tidied : (m : Manner) (question : List ℕ) (q : Question) → check_of question ≡ result q → (capacity : ℕ)
    → verdict_by m q capacity ≡ verdict_by m (tidied_bodies q) capacity
unfolding verdict_by result_form tidied_bodies
verdict_tidied m question q a capacity = bodies_verdict m q (accepted_well_formed question q a) capacity

pub judged-tidied : (m : Manner) (question out out' : List ℕ) (n : ℕ) → WritesTidied question out n out' → (capacity : ℕ) (work : List ℕ) (r : told.Verdict) (work' : List ℕ)
    → AcceptedIs m (take n out') capacity work r work' → AcceptedIs m question capacity work r work'
judged-tidied m question out out' n w capacity work r work' d = record {
  left = d.left;
  is = λ q a. d.is (tidied_bodies q) (tidied_checked question q a out out' n w) ∙ sym (verdict_tidied m question q a capacity);
}
