-- The definitions of an accepted question: their bodies are closed, their calls in scope, and one call is all that a step opens.
-- Assumes nothing.
use mathlib.Core.Bool.{true}
use mathlib.Core.List.{List, [], ◌∷◌}
use mathlib.Core.Path.{◌≡◌, sym, ◌∙◌, subst}
use native.Mathlib.Omega.{arith}
use Prim.Native.Nat.{ℕ, zero, suc, ◌<◌}
use lib.ListN.{get_or}
use Rattle.calculus.specs.Term.{Term, nil, tau, inp, out, bout, mat, sum, par, res, call}
use Rattle.calculus.specs.Free.{Free}
use Rattle.calculus.specs.Definitions.{Defs}
use Rattle.terms.specs.Grammar.{guarded}
use Rattle.terms.proofs.Answers.{both_true}
use Rattle.terms.proofs.ScopeLaws.{free_below}
use Rattle.terms.proofs.WellFormed.{BodyAllowed, BodiesAllowed}
use Rattle.terms.specs.Question.{body_of}
use Rattle.steps.proofs.Calls.{EachCall, CallOpens, Opens}
use Rattle.steps.proofs.Scope.{CallsInScope, scope_calls}

-- In a guarded term every call is beneath a prefix.
pub guarded-each : (C : ℕ → List ℕ → Type 0) (P : Term) → guarded P ≡ true → EachCall C P
unfolding guarded
guarded-each C nil g = tt
guarded-each C (tau P) g = tt
guarded-each C (inp a P) g = tt
guarded-each C (out a b P) g = tt
guarded-each C (bout a P) g = tt
guarded-each C (mat a b P) g = guarded-each C P g
guarded-each C (sum P Q) g = let b = both_true (guarded P) (guarded Q) g in (guarded-each C P b.0, guarded-each C Q b.1)
guarded-each C (par P Q) g = let b = both_true (guarded P) (guarded Q) g in (guarded-each C P b.0, guarded-each C Q b.1)
guarded-each C (res P) g = guarded-each C P g
guarded-each C (call k xs) g = let z : ◌≡◌ {A = ℕ} 0 1 = cc in absurd (omega arith)

-- What is asked of every body, and holds of inaction, holds of the body of each number.
pub body_at : (S : ℕ → Term → Type 0) (arities sizes : List ℕ) (bodies : List Term) → BodiesAllowed arities sizes bodies
    → ((a : ℕ) (P : Term) → BodyAllowed arities a P → S a P) → S 0 nil → (k : ℕ) → S (get_or sizes k 0) (body_of bodies k)
unfolding BodiesAllowed body_of
body_at S arities (a ∷ sizes) (P ∷ Ps) w h i zero = h a P w.0
body_at S arities (a ∷ sizes) (P ∷ Ps) w h i (suc k) = body_at S arities sizes Ps w.1 h i k
body_at S arities [] (P ∷ Ps) w h i k = elim w [ ]
body_at S arities (a ∷ sizes) [] w h i k = elim w [ ]
body_at S arities [] [] w h i k = i

module _ (arities : List ℕ) (bodies : List Term) (allowed : BodiesAllowed arities arities bodies) where
  -- the definitions of a question
  unfoldable pub definitions : Defs
  definitions = record {
    arity = λ k. get_or arities k 0;
    body = body_of bodies;
    closed = body_at (λ a P. (n : ℕ) → Free n P → n < a) arities arities bodies allowed
        (λ a P b n f. omega (arith, free_below 0 arities a P b.scope n f)) (λ n f. absurd f);
  }

  -- For any definitions that have these arities and bodies.
  module _ (Δ : Defs) (arity-same : (k : ℕ) → Δ.arity k ≡ get_or arities k 0) (Body-same : Δ.body ≡ body_of bodies) where
    -- what holds of every allowed body, and of inaction, holds of every body
    each-body : (S : Term → Type 0) → ((a : ℕ) (P : Term) → BodyAllowed arities a P → S P) → S nil → (k : ℕ) → S (Δ.body k)
    each-body S h i k = subst (λ f. S (f k)) (sym Body-same) (body_at (λ a P. S P) arities arities bodies allowed h i k)

    pub bodies_in_scope : (k : ℕ) → CallsInScope arities (Δ.body k)
    bodies_in_scope = each-body (CallsInScope arities) (λ a P b. scope_calls 0 arities a P b.scope) tt

    pub opens_one : (P : Term) → CallsInScope arities P → Opens Δ 1 P
    opens_one nil c = tt
    opens_one (tau P) c = tt
    opens_one (inp a P) c = tt
    opens_one (out a b P) c = tt
    opens_one (bout a P) c = tt
    opens_one (mat a b P) c = opens_one P c
    opens_one (sum P Q) c = (opens_one P c.0, opens_one Q c.1)
    opens_one (par P Q) c = (opens_one P c.0, opens_one Q c.1)
    opens_one (res P) c = opens_one P c
    opens_one (call k xs) c =
        (c.1 ∙ sym (arity-same k), each-body (EachCall (CallOpens Δ 0)) (λ a P b. guarded-each (CallOpens Δ 0) P b.calls_guarded) tt k)
