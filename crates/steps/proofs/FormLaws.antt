-- What the theorems ask of the form of results, and that both forms have it: results as they are, and tidied (document 02, request 2026-04).
-- Assumes nothing.
use mathlib.Core.Bool.{Bool, true, false, cond}
use mathlib.Core.List.{List}
use mathlib.Core.Path.{◌≡◌, refl, sym, subst}
use native.Mathlib.Omega.{arith}
use Prim.Native.Nat.{ℕ, ◌≤◌}
use lib.ListN.{length}
use Rattle.calculus.specs.Cond.{Cond, Pairs}
use Rattle.calculus.specs.Definitions.{Defs}
use Rattle.calculus.specs.Distinction.{Irr, among}
use Rattle.calculus.specs.Free.{Free, fn}
use Rattle.calculus.specs.OpenBisimulation.{Related}
use Rattle.calculus.specs.Published.{Action, Transition}
use Rattle.calculus.specs.Term.{Term, nil, tau, inp, out, bout, mat, sum, par, res, call, ren}
use Rattle.calculus.specs.Tidy.{outside, restrict_used, tidy}
use Rattle.calculus.proofs.Tidying.{tidy-ren, tidy-tidy}
use Rattle.calculus.proofs.TidySteps.{related_same_tidied}
use Rattle.calculus.proofs.TidyTransitions.{alike_free, also_moves}
use Rattle.calls.specs.ReachLimit.{PastCalls}
use Rattle.calls.proofs.ReachRenaming.{past-tidy, tidy-past}
use Rattle.terms.specs.Encoding.{encode, InScope}
use Rattle.terms.proofs.ScopeLaws.{free_below}
use Rattle.terms.proofs.TidyShorter.{tidy_shorter}
use Rattle.steps.specs.Forms.{as_it_is, result_form}
use Rattle.steps.proofs.Scope.{CallsInScope, scope_calls, in_scope, calls_ren}

-- Q makes the transition (M, α) to a term of the same form as P'
pub record SoMoves (form : Term → Term) (Δ : Defs) (Q : Term) (M : Cond) (α : Action) (P' : Term) : Type 0 where
  pub result : Term
  pub transition : Transition Δ Q M α result
  pub formed : form result ≡ form P'

pub record Form (form : Term → Term) : Type 0 where
  pub again : (P : Term) → form (form P) ≡ form P
  pub renamed : (ρ : ℕ → ℕ) (P : Term) → form (ren ρ P) ≡ ren ρ (form P)
  pub tidied : (P : Term) → tidy (form P) ≡ tidy P
  pub calls : (arities : List ℕ) (P : Term) → CallsInScope arities P → CallsInScope arities (form P)
  pub shorter : (d : ℕ) (P : Term) → length (encode d (form P)) ≤ length (encode d P)
  -- terms of one form have the same transitions to terms of one form
  pub moves : (Δ : Defs) (P Q : Term) → form P ≡ form Q → {M : Cond} {α : Action} {P' : Term} → Transition Δ P M α P' → SoMoves form Δ Q M α P'

pub as_it_is_lem : Form as_it_is
as_it_is_lem = record {
  again = λ P. refl;
  renamed = λ ρ P. refl;
  tidied = λ P. refl;
  calls = λ arities P c. c;
  shorter = λ d P. omega arith;
  moves = λ Δ P Q e {M} {α} {P'} t. record { result = P'; transition = subst (λ X. Transition Δ X M α P') e t; formed = refl };
}

calls_used : (arities : List ℕ) (P : Term) → CallsInScope arities P → CallsInScope arities (restrict_used P)
unfolding restrict_used
calls_used arities P c = go (among (fn P) 0)
  where
    go : (b : Bool) → CallsInScope arities (cond b (res P) (ren outside P))
    go true = c
    go false = calls_ren arities P outside c

calls_tidy : (arities : List ℕ) (P : Term) → CallsInScope arities P → CallsInScope arities (tidy P)
unfolding tidy
calls_tidy arities nil c = tt
calls_tidy arities (tau P) c = calls_tidy arities P c
calls_tidy arities (inp a P) c = calls_tidy arities P c
calls_tidy arities (out a b P) c = calls_tidy arities P c
calls_tidy arities (bout a P) c = calls_tidy arities P c
calls_tidy arities (mat a b P) c = calls_tidy arities P c
calls_tidy arities (sum P Q) c = (calls_tidy arities P c.0, calls_tidy arities Q c.1)
calls_tidy arities (par P Q) c = (calls_tidy arities P c.0, calls_tidy arities Q c.1)
calls_tidy arities (res P) c = calls_used arities (tidy P) (calls_tidy arities P c)
calls_tidy arities (call k xs) c = c

pub tidied_form : Form tidy
tidied_form = record {
  again = tidy-tidy;
  renamed = tidy-ren;
  tidied = tidy-tidy;
  calls = calls_tidy;
  shorter = tidy_shorter;
  moves = λ Δ P Q e t. let k = also_moves Δ P Q e t in record { result = k.result; transition = k.transition; formed = k.tidied };
}

-- the form of the service
pub result_form_lem : Form result_form
unfolding result_form
result_form_lem = tidied_form

module _ {form : Term → Term} (f : Form form) where
  -- the same free names
  pub form_free : (n : ℕ) (P : Term) → Free n P → Free n (form P)
  form_free n P = alike_free P (form P) (sym (f.tidied P)) n

  pub free_form : (n : ℕ) (P : Term) → Free n (form P) → Free n P
  free_form n P = alike_free (form P) P (f.tidied P) n

  -- a term in scope stays so
  pub form_scope : (names : ℕ) (arities : List ℕ) (d : ℕ) (P : Term) → InScope names arities d P → InScope names arities d (form P)
  form_scope names arities d P s =
      in_scope names arities d (form P) (λ n h. free_below names arities d P s n (free_form n P h)) (f.calls arities P (scope_calls names arities d P s))

  -- a term and its form are related
  pub form_related : (Δ : Defs) (D : Pairs) → Irr D → (P : Term) → Related Δ D P (form P)
  form_related Δ D irr P = related_same_tidied Δ D irr P (form P) (sym (f.tidied P))

  -- the same limit on calls (request 2026-01)
  pub past_formed : (Δ : Defs) (limit : ℕ) (P : Term) → PastCalls Δ limit (form P) → PastCalls Δ limit P
  past_formed Δ limit P h = tidy-past Δ limit P (subst (PastCalls Δ limit) (f.tidied P) (past-tidy Δ limit (form P) h))
