-- Theorem `listed_iff_derived`: for each side of an accepted question and a new name not free in it, a step stands in the list exactly if
-- Table 4.1 with rule Canon derives it with that name, and the answer is "unsettled" exactly if a limit is passed. Assumes nothing.
use borrow.Author.Tests.{ltb-true, not-true}
use mathlib.Core.Bool.{Bool, true, false, cond, ◌&&◌, ◌||◌, not}
use mathlib.Core.List.{List}
use mathlib.Core.Path.{◌≡◌, sym, ◌∙◌, ap, subst}
use native.Mathlib.Omega.{arith}
use Prim.Native.Nat.{ℕ, suc, ◌*◌, ◌<◌, ◌≤◌}
use lib.Dec.{ltb, leb, eqb}
use lib.ListN.{length, get_or}
use Rattle.calculus.specs.Definitions.{Defs}
use Rattle.calculus.specs.Distinction.{among}
use Rattle.calculus.specs.Free.{In, Free, fn}
use Rattle.calculus.specs.Term.{Term}
use Rattle.calculus.proofs.FreeNames.{free→fn}
use Rattle.calculus.proofs.Selection.{in_among}
use Rattle.terms.specs.Answer.{result}
use Rattle.terms.specs.Encoding.{InScope}
use Rattle.terms.specs.Limits.{name_count, longest_term}
use Rattle.terms.specs.Question.{Question, question_of}
use Rattle.terms.proofs.Answers.{result_injective, bind-result, need-result, both_true}
use Rattle.terms.proofs.OwnEdition.{own_well_formed}
use Rattle.terms.proofs.WellFormed.{BodiesAllowed, PartAllowed, WellFormed}
use Rattle.terms.specs.Question.{body_of}
use Rattle.steps.proofs.Calls.{Opens}
use Rattle.steps.proofs.QuestionDefinitions.{bodies_in_scope, opens_one}
use Rattle.steps.proofs.Scope.{CallsInScope, scope_calls}
use Rattle.steps.specs.Derived.{Derived, ListsExactly}
use Rattle.steps.specs.Forms.{result_form}
use Rattle.steps.specs.Operations.{ListsSide}
use Rattle.steps.specs.Limits.{most_steps, step_bytes}
use Rattle.steps.specs.Listed.{ListedStep}
use Rattle.steps.specs.Listing.{Listing, listed, listing, steps_of}
use Rattle.steps.specs.Operations.{side_of, is_new, list_of, list_bytes}
use Rattle.steps.proofs.FormLaws.{result_form_lem}
use Rattle.steps.proofs.ListedBytes.{length-list_bytes}
use Rattle.steps.proofs.ListingLaws.{listing_sizes, derived_well, listing_exact}

-- For every term in scope under the definitions of a question.
module _ (arities : List ℕ) (bodies : List Term) (allowed : BodiesAllowed arities arities bodies)
    (Δ : Defs) (arity-same : (k : ℕ) → Δ.arity k ≡ get_or arities k 0) (Body-same : Δ.body ≡ body_of bodies)
    (P : Term) (scope : InScope name_count arities 0 P) where
  closed_calls : (k : ℕ) → CallsInScope arities (Δ.body k)
  closed_calls = bodies_in_scope arities bodies allowed Δ arity-same Body-same

  opens : Opens Δ 1 P
  opens = opens_one arities bodies allowed Δ arity-same Body-same P (scope_calls name_count arities 0 P scope)

  -- the new name may also be the one behind the 16
  pub steps_exact : (x : ℕ) → x ≤ name_count → ¬ Free x P → ListsExactly result_form Δ name_count longest_term most_steps x P (steps_of bodies x P)
  unfolding steps_of
  steps_exact x within fresh =
      subst (λ b. ListsExactly result_form Δ name_count longest_term most_steps x P (listing result_form name_count longest_term most_steps b 1 x P)) Body-same
      (listing_exact result_form_lem Δ name_count (suc name_count) (omega arith) arities closed_calls x (omega arith) P scope longest_term 1 opens fresh (omega arith) most_steps)

  pub steps-length : (x : ℕ) → x ≤ name_count → (ss : List ListedStep) → steps_of bodies x P ≡ listed ss → length (list_bytes ss) ≡ length ss * step_bytes
  unfolding steps_of
  steps-length x within ss e =
      length-list_bytes ss
      (listing_sizes result_form_lem Δ name_count (suc name_count) (omega arith) arities closed_calls x (omega arith) P scope longest_term 1 opens most_steps ss
      (ap (λ b. listing result_form name_count longest_term most_steps b 1 x P) Body-same ∙ e))

  -- results are in scope again
  pub result_in_scope : (x : ℕ) → x < name_count → ¬ Free x P → (s : ListedStep) → Derived result_form Δ name_count x P s → InScope name_count arities 0 s.result
  result_in_scope x below fresh s d =
      (derived_well result_form_lem Δ name_count name_count (omega arith) arities closed_calls x below P scope longest_term 1 opens fresh (omega arith) s d).scope

pub side_allowed : (q : Question) → WellFormed q → (side : ℕ) (P : Term) → side_of q side ≡ result P → PartAllowed q.arities P
unfolding side_of
side_allowed q w side P e =
    go (eqb side 1) (result_injective (need-result 13 (eqb side 1 || eqb side 2) (result (cond (eqb side 1) q.first q.second)) P e).1)
  where
    go : (b : Bool) → cond b q.first q.second ≡ P → PartAllowed q.arities P
    go true e = subst (PartAllowed q.arities) e w.first
    go false e = subst (PartAllowed q.arities) e w.second

pub listed_iff_derived : (question : List ℕ) (side x room : ℕ) (r : Listing) → list_of question side x room ≡ result r → ListsSide question side x r
unfolding list_of is_new
listed_iff_derived question side x room r e =
    let (q, a, e₁) = bind-result (question_of question) _ r e in
    let (P, c, e₂) = bind-result (side_of q side) _ r e₁ in
    let (n, e₃) = need-result 13 (ltb x name_count && not (among (fn P) x)) _ r e₂ in
    let (_, e₄) = need-result 15 (leb (step_bytes * most_steps) room) _ r e₃ in
    let (l, m) = both_true (ltb x name_count) (not (among (fn P) x)) n in
    let w = own_well_formed question q a in
    let h : x < name_count = ltb-true x name_count l in
    let fresh : ¬ Free x P = λ f. not_among (fn P) x (not-true (among (fn P) x) m) (free→fn x P f) in
    let s : steps_of q.bodies x P ≡ r = result_injective e₄ in
    record {
      asked = q;
      accepted = a;
      part = P;
      chosen = c;
      below = h;
      fresh = fresh;
      steps = sym s;
      exact = λ Δ same-arity same_body.
          subst (ListsExactly result_form Δ name_count longest_term most_steps x P) s
          (steps_exact q.arities q.bodies w.bodies Δ same-arity same_body P (side_allowed q w side P c).scope x (omega arith) fresh);
    }
  where
    not_among : (F : List ℕ) (n : ℕ) → among F n ≡ false → ¬ In n F
    not_among F n e i = let z : true ≡ false = sym (in_among F n i) ∙ e in let o : ◌≡◌ {A = ℕ} 0 1 = cc in omega arith
