-- A question without the restrictions that bind nothing (document 02, request 2026-04): it is well-formed again, and either side has the same list of
-- steps, their results tidied. Assumes nothing.
use borrow.Author.Tests.{ltb-true, not-true}
use mathlib.Core.Bool.{Bool, true, false, cond, ◌&&◌, ◌||◌, not, false≢true}
use mathlib.Core.List.{List, [], ◌∷◌, map}
use mathlib.Core.Path.{◌≡◌, refl, sym, ◌∙◌, ap, ap₂, subst}
use native.Mathlib.Omega.{arith}
use Prim.Native.Nat.{ℕ, ◌<◌}
use lib.Dec.{ltb, eqb}
use Rattle.calculus.specs.Distinction.{among}
use Rattle.calculus.specs.Free.{Free, fn}
use Rattle.calculus.specs.Term.{Term}
use Rattle.calculus.specs.Tidy.{tidy}
use Rattle.calculus.proofs.FreeNames.{free→fn, fn→free}
use Rattle.calculus.proofs.Selection.{in_among, among_in}
use Rattle.calculus.proofs.Tidying.{tidy-tidy}
use Rattle.calculus.proofs.TidyTransitions.{alike_free}
use Rattle.terms.specs.Answer.{Answer, result, ◌>>=◌, ◌>>◌, need}
use Rattle.terms.specs.Limits.{name_count, longest_term}
use Rattle.terms.specs.Question.{Question, check_of, write, body_of}
use Rattle.terms.specs.WellFormed.{BodiesAllowed, PartAllowed, WellFormed}
use Rattle.terms.proofs.Answers.{both_true}
use Rattle.terms.proofs.WellFormed.{well_formed_accepted}
use Rattle.steps.specs.Limits.{most_steps}
use Rattle.steps.specs.Listing.{Listing, listing}
use Rattle.steps.specs.Operations.{side_of, is_new}
use Rattle.steps.proofs.TidyLists.{bodies_tidied_lem, part_tidied, alike_list}

-- Questions that differ in restrictions that bind nothing alone.
pub record TidiedAlike (q q₁ : Question) : Type 0 where
  pub arities : q.arities ≡ q₁.arities
  pub bodies : map tidy q.bodies ≡ map tidy q₁.bodies
  pub first : tidy q.first ≡ tidy q₁.first
  pub second : tidy q.second ≡ tidy q₁.second
  pub apart : q.apart ≡ q₁.apart

-- the question with its bodies tidied, and with its parts tidied too
abbrev pub bodies_tidied : Question → Question
bodies_tidied q = record { arities = q.arities; bodies = map tidy q.bodies; first = q.first; second = q.second; apart = q.apart }

abbrev pub all_tidied : Question → Question
all_tidied q = record { arities = q.arities; bodies = map tidy q.bodies; first = tidy q.first; second = tidy q.second; apart = q.apart }

again : (Ps : List Term) → map tidy Ps ≡ map tidy (map tidy Ps)
again [] = refl
again (P ∷ Ps) = ap₂ ◌∷◌ (sym (tidy-tidy P)) (again Ps)

pub bodies_alike : (q : Question) → TidiedAlike q (bodies_tidied q)
bodies_alike q = record { arities = refl; bodies = again q.bodies; first = refl; second = refl; apart = refl }

pub all_alike : (q : Question) → TidiedAlike q (all_tidied q)
all_alike q = record {
  arities = refl;
  bodies = again q.bodies;
  first = sym (tidy-tidy q.first);
  second = sym (tidy-tidy q.second);
  apart = refl;
}

module _ (q : Question) (well : WellFormed q) where
  pub bodies_well : WellFormed (bodies_tidied q)
  bodies_well = record {
    definitions = well.definitions;
    parameters = well.parameters;
    bodies = bodies_tidied_lem q.arities q.arities q.bodies well.bodies;
    first = well.first;
    second = well.second;
    apart = well.apart;
    apart_size = well.apart_size;
  }

  pub all_well : WellFormed (all_tidied q)
  all_well = record {
    definitions = well.definitions;
    parameters = well.parameters;
    bodies = bodies_tidied_lem q.arities q.arities q.bodies well.bodies;
    first = part_tidied q.arities q.first well.first;
    second = part_tidied q.arities q.second well.second;
    apart = well.apart;
    apart_size = well.apart_size;
  }

  -- their bytes are accepted
  pub bodies_accepted : check_of (write (bodies_tidied q)) ≡ result (bodies_tidied q)
  bodies_accepted = well_formed_accepted (bodies_tidied q) bodies_well

  pub all_accepted : check_of (write (all_tidied q)) ≡ result (all_tidied q)
  all_accepted = well_formed_accepted (all_tidied q) all_well

-- Such questions list the same for parts of one tidied form, in particular for either side.
module _ (q q₁ : Question) (well : WellFormed q) (well₁ : WellFormed q₁) (alike : TidiedAlike q q₁) where
  pub bodies_over : BodiesAllowed q.arities q.arities q₁.bodies
  bodies_over = subst (λ (as' : List ℕ). BodiesAllowed as' as' q₁.bodies) (sym alike.arities) well₁.bodies

  pub tidied_side : (x : ℕ) → x < name_count → (P Q : Term) → PartAllowed q.arities P → PartAllowed q₁.arities Q → tidy P ≡ tidy Q → ¬ Free x P
      → listing tidy name_count longest_term most_steps (body_of q.bodies) 1 x P ≡ listing tidy name_count longest_term most_steps (body_of q₁.bodies) 1 x Q
  tidied_side x below P Q a b e fresh =
      alike_list q.arities q.bodies q₁.bodies well.bodies bodies_over alike.bodies x (omega arith) P Q a.scope
      (subst (λ (as' : List ℕ). PartAllowed as' Q) (sym alike.arities) b).scope e fresh

  free_alike : (x : ℕ) (P Q : Term) → tidy P ≡ tidy Q → among (fn P) x ≡ among (fn Q) x
  free_alike x P Q e = go (among (fn P) x) refl (among (fn Q) x) refl
    where
      to : (P Q : Term) → tidy P ≡ tidy Q → among (fn P) x ≡ true → among (fn Q) x ≡ true
      to P Q e h = in_among (fn Q) x (free→fn x Q (alike_free P Q e x (fn→free x P (among_in (fn P) x h))))

      go : (s : Bool) → among (fn P) x ≡ s → (t : Bool) → among (fn Q) x ≡ t → among (fn P) x ≡ among (fn Q) x
      go true h t k = h ∙ sym (to P Q e h)
      go false h true k = to Q P (sym e) k ∙ sym k
      go false h false k = h ∙ sym k

  -- The same of check 13 and the list behind it; `done` is what comes then.
  module _ (done : Listing → Answer Listing) (x : ℕ) where
    abbrev lists_for : Question → Term → Answer Listing
    lists_for q P = is_new x P >> done (listing tidy name_count longest_term most_steps (body_of q.bodies) 1 x P)

    part_lists : (P Q : Term) → PartAllowed q.arities P → PartAllowed q₁.arities Q → tidy P ≡ tidy Q → lists_for q P ≡ lists_for q₁ Q
    unfolding is_new need ◌>>◌
    part_lists P Q a b e =
        ap (λ (t : Bool). need 13 (ltb x name_count && not t) >> done (listing tidy name_count longest_term most_steps (body_of q.bodies) 1 x P)) (free_alike x P Q e)
        ∙ go (ltb x name_count && not (among (fn Q) x)) refl
      where
        go : (t : Bool) → (ltb x name_count && not (among (fn Q) x)) ≡ t
            → (need 13 t >> done (listing tidy name_count longest_term most_steps (body_of q.bodies) 1 x P))
            ≡ (need 13 t >> done (listing tidy name_count longest_term most_steps (body_of q₁.bodies) 1 x Q))
        go false h = refl
        go true h =
            let (l, n) = both_true (ltb x name_count) (not (among (fn Q) x)) h in
            ap done (tidied_side x (ltb-true x name_count l) P Q a b e
            (λ f. false≢true (sym (free_alike x P Q e ∙ not-true (among (fn Q) x) n) ∙ in_among (fn P) x (free→fn x P f))))

    pub tidied-listing : (side : ℕ) → (side_of q side >>= lists_for q) ≡ (side_of q₁ side >>= lists_for q₁)
    unfolding side_of need ◌>>◌ ◌>>=◌
    tidied-listing side = go (eqb side 1) (eqb side 1 || eqb side 2)
      where
        go : (b t : Bool) → (need 13 t >> result (cond b q.first q.second) >>= lists_for q) ≡ (need 13 t >> result (cond b q₁.first q₁.second) >>= lists_for q₁)
        go b false = refl
        go true true = part_lists q.first q₁.first well.first well₁.first alike.first
        go false true = part_lists q.second q₁.second well.second well₁.second alike.second
