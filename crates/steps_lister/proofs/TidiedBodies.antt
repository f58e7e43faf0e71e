-- Theorem `tidied_accepted`: the question with tidied bodies is accepted as the question is, so that the lister and the judge may go on with it.
-- Assumes nothing.
use mathlib.Core.List.{List, ◌++◌, map}
use mathlib.Core.Path.{◌≡◌, sym, ap, subst, ◌∙◌}
use native.Mathlib.Omega.{arith}
use Prim.Native.Nat.{ℕ, ◌≤◌}
use lib.ListN.{length, take, drop}
use lib.Seq.{take-append_seam}
use Rattle.calculus.specs.Tidy.{tidy}
use Rattle.terms.specs.Answer.{result}
use Rattle.terms.specs.Edition.{one}
use Rattle.terms.specs.Limits.{longest_question}
use Rattle.terms.specs.Operations.{area_after}
use Rattle.terms.specs.Question.{Question, check_of, write_in, write}
use Rattle.terms.specs.WellFormed.{WellFormed}
use Rattle.terms.proofs.Answers.{result_injective}
use Rattle.terms.proofs.EditionOne.{write-first}
use Rattle.terms.proofs.WellFormed.{accepted_well_formed, well_formed_accepted, fits-first, written-length}
use Rattle.terms_bytes.specs.Writing.{Plain, Writes}
use Rattle.terms_tidied.specs.TidiedBodies.{tidied_bodies, WritesTidied}
use Rattle.steps_tallies.specs.Tally.{BodiesTidied}
use Rattle.steps.proofs.TidiedQuestions.{bodies_alike, bodies_well}

pub well_formed_tidied : (q : Question) → WellFormed q → WellFormed (tidied_bodies q)
unfolding tidied_bodies
well_formed_tidied q w = bodies_well q w

-- The bodies of that question stay as they are.
pub tidied-again : (q : Question) → map tidy (tidied_bodies q).bodies ≡ (tidied_bodies q).bodies
unfolding tidied_bodies
tidied-again q = sym (bodies_alike q).bodies

module _ (question : List ℕ) (q : Question) (a : check_of question ≡ result q) where
  well : WellFormed (tidied_bodies q)
  well = well_formed_tidied q (accepted_well_formed question q a)

  pub tidied_accepted : check_of (write (tidied_bodies q)) ≡ result (tidied_bodies q)
  tidied_accepted = well_formed_accepted (tidied_bodies q) well

  -- As the code leaves it: n bytes from the start of the area.
  module _ (out out' : List ℕ) (n : ℕ) (w : WritesTidied question out n out') where
    written : Writes one (tidied_bodies q) out n out'
    unfolding WritesTidied
    written = w q a

    pub tidied-fits : n ≤ longest_question
    unfolding Writes
    tidied-fits = let l = written.0 in omega (arith, written-length one (tidied_bodies q) well (fits-first (tidied_bodies q) well))

    pub tidied-taken : take n out' ≡ write (tidied_bodies q)
    unfolding Writes area_after
    tidied-taken =
        let B : List ℕ = write_in one (tidied_bodies q) in
        ap (take n) written.1 ∙ ap (λ (k : ℕ). take k (B ++ drop (length B) out)) written.0 ∙ take-append_seam B (drop (length B) out)
        ∙ write-first (tidied_bodies q)

    pub tidied_checked : check_of (take n out') ≡ result (tidied_bodies q)
    tidied_checked = ap check_of tidied-taken ∙ tidied_accepted

-- Whatever it is read as, its bodies are tidied.
pub bodies_are_tidied : (question out out' : List ℕ) (n : ℕ) → Plain question → WritesTidied question out n out' → BodiesTidied (take n out')
unfolding Plain
bodies_are_tidied question out out' n (q, a) w q₁ e =
    let d : tidied_bodies q ≡ q₁ = result_injective (sym (tidied_checked question q a out out' n w) ∙ e) in
    subst (λ (r : Question). map tidy r.bodies ≡ r.bodies) d (tidied-again q)
