-- A question in its own edition, which its first byte says: what is accepted is what is written of it there, and what is written is accepted.
use mathlib.Core.Path.{◌≡◌, refl, sym, ap, subst, ◌∙◌}
use mathlib.Core.List.{List}
use mathlib.Core.Bool.{true}
use mathlib.Core.Logic.{◌↔◌}
use Prim.Native.Nat.{ℕ}
use Rattle.terms.specs.Answer.{result}
use Rattle.terms.specs.Edition.{Edition, one, two, version_byte}
use Rattle.terms.specs.Framing.{Fields, joined}
use Rattle.terms.specs.Question.{Question, check_in, check_of, edition_of, question_of, question_with, fields_in, write_in, fits_in, write}
use Rattle.terms.proofs.Answers.{result_injective}
use Rattle.terms.proofs.WellFormed.{WellFormed, accepted_in, written_in, in_accepted, well_formed_accepted}

pub edition_joined : (e : Edition) (f : Fields) → edition_of (joined e f) ≡ e
unfolding edition_of joined version_byte
edition_joined one f = refl
edition_joined two f = refl

pub edition_written : (e : Edition) (q : Question) → edition_of (write_in e q) ≡ e
unfolding write_in
edition_written e q = edition_joined e (fields_in e q)

pub edition_accepted : (e : Edition) (question : List ℕ) (q : Question) → check_in e question ≡ result q → edition_of question ≡ e
edition_accepted e question q h = subst (λ (bs : List ℕ). edition_of bs ≡ e) (written_in e question q h) (edition_written e q)

-- a question that is accepted in an edition is of that edition
pub in_own : (e : Edition) (question : List ℕ) (q : Question) → check_in e question ≡ result q → question_of question ≡ result q
unfolding question_with
in_own e question q h = ap (λ x. check_in x question) (edition_accepted e question q h) ∙ h

module _ (question : List ℕ) (q : Question) (h : question_of question ≡ result q) where
  pub own_well_formed : WellFormed q
  unfolding question_with
  own_well_formed = (accepted_in (edition_of question) question q h).0

  pub own-fits : fits_in (edition_of question) q ≡ true
  unfolding question_with
  own-fits = (accepted_in (edition_of question) question q h).1

  pub own-written : write_in (edition_of question) q ≡ question
  unfolding question_with
  own-written = written_in (edition_of question) question q h

  -- its edition-one form is accepted, as the same question: what the lister and the judge are handed
  pub plain_accepted : check_of (write q) ≡ result q
  plain_accepted = well_formed_accepted q own_well_formed

pub written_accepted : (e : Edition) (q : Question) → WellFormed q → fits_in e q ≡ true → question_of (write_in e q) ≡ result q
written_accepted e q w fit = in_own e (write_in e q) q (in_accepted e q w fit)

-- The bytes determine the question.
pub accepted_once : (bs : List ℕ) (q r : Question) → question_of bs ≡ result q → question_of bs ≡ result r → q ≡ r
accepted_once bs q r e f = result_injective (sym e ∙ f)

-- A question is accepted exactly if it is the writing of a well-formed one, in an edition that it fits.
pub accepted_iff_written : (bs : List ℕ) (q : Question)
    → (question_of bs ≡ result q) ↔ (WellFormed q × ((e : Edition) × (fits_in e q ≡ true) × (bs ≡ write_in e q)))
accepted_iff_written bs q = (
  λ h. (own_well_formed bs q h, (edition_of bs, own-fits bs q h, sym (own-written bs q h))),
  λ (w, (e, fit, h)). ap question_of h ∙ written_accepted e q w fit,
)
