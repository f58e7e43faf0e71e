-- The verdict on the bytes of a question and whether its parts are related, as a list of changes speaks of them (specs/Entries). Assumes nothing.
use mathlib.Core.Path.{◌≡◌, refl, subst}
use mathlib.Core.List.{List}
use Prim.Native.Nat.{ℕ}
use Rattle.calculus.specs.Definitions.{Defs}
use Rattle.terms.specs.Answer.{result}
use Rattle.terms.specs.Question.{Question, question_of}
use Rattle.terms.proofs.OwnEdition.{own_well_formed, accepted_once}
use Rattle.terms.proofs.WellFormed.{BodiesAllowed}
use Rattle.steps.proofs.QuestionDefinitions.{definitions}
use Rattle.verdict.specs.Entries.{Defines, RelatedParts}
use Rattle.verdict.specs.Verdict.{same, different, verdict_of}
use Rattle.verdict.proofs.VerdictIsDefinition13.{same_is_related, different_is_unrelated}

-- an accepted question has its definitions
pub question_defines : (q : Question) (w : BodiesAllowed q.arities q.arities q.bodies) → Defines q (definitions q.arities q.bodies w)
unfolding definitions
question_defines q w = record { arities = λ k. refl; bodies = refl }

module _ (question : List ℕ) (q : Question) (accepted : question_of question ≡ result q) (capacity n : ℕ) where
  pub same_related_parts : verdict_of q capacity ≡ same n → RelatedParts question
  same_related_parts e =
      let w = own_well_formed question q accepted in
      let Δ : Defs = definitions q.arities q.bodies w.bodies in
      let d : Defines q Δ = question_defines q w.bodies in
      record { read = q; accepted = accepted; definitions = Δ; defines = d; related = same_is_related q w Δ d capacity n e }

  -- related parts are never called different
  pub related_never_different : RelatedParts question → ¬ (verdict_of q capacity ≡ different n)
  related_never_different r e =
      different_is_unrelated r.read (own_well_formed question r.read r.accepted) r.definitions r.defines capacity n
      (subst (λ p. verdict_of p capacity ≡ different n) (accepted_once question q r.read accepted r.accepted) e) r.related
