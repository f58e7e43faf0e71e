-- The limit of request 2026-01, by its test and by its definition: where the bodies of a part's unprefixed calls are guarded, as check 11 asks, each such
-- call reaches itself alone, and neither is ever passed. Assumes nothing.
use mathlib.Core.Bool.{Bool, true, false, cond, ◌||◌}
use mathlib.Core.List.{List}
use mathlib.Core.Logic.{inl, inr}
use mathlib.Core.Path.{◌≡◌, refl, ap, ap₂}
use native.Mathlib.Omega.{arith}
use Prim.Native.Nat.{ℕ, zero, suc}
use Rattle.calculus.specs.Definitions.{Defs}
use Rattle.calculus.specs.Term.{Term, nil, tau, inp, out, bout, mat, sum, par, res, call}
use Rattle.calls.specs.Reach.{Guarded}
use Rattle.calls.specs.ReachLimit.{PastCalls}
use Rattle.calls.proofs.ReachLimits.{found_within}
use Rattle.calls.proofs.Theorems.{guarded_from, guarded-alone}
use Rattle.terms.specs.Question.{body_of}
use Rattle.terms.specs.WellFormed.{BodiesAllowed}
use Rattle.steps.specs.CallLimit.{is_many, past_calls}
use Rattle.steps.specs.Limits.{most_reached}
use Rattle.steps.specs.Listed.{ListedStep}
use Rattle.steps.specs.Listing.{Listing, unsettled, listed}
use Rattle.steps.proofs.CallCandidates.{each-guarded}
use Rattle.steps.proofs.Calls.{EachCall, Opens}
use Rattle.steps.proofs.QuestionDefinitions.{guarded-each, body_at}

-- Where a list is answered, it is the list without the test.
pub listed_within : (b : Bool) (l : Listing) (ss : List ListedStep) → cond b unsettled l ≡ listed ss → l ≡ listed ss
listed_within true l ss e = let z : ◌≡◌ {A = ℕ} 0 1 = cc in absurd (omega arith)
listed_within false l ss e = e

-- the test is not met
pub never_past : (body : ℕ → Term) (P : Term) → EachCall (λ k xs. Guarded (body k)) P → past_calls body P ≡ false
unfolding past_calls is_many
never_past body nil g = refl
never_past body (tau P) g = refl
never_past body (inp a P) g = refl
never_past body (out a b P) g = refl
never_past body (bout a P) g = refl
never_past body (mat a b P) g = never_past body P g
never_past body (sum P Q) g = ap₂ ◌||◌ (never_past body P g.0) (never_past body Q g.1)
never_past body (par P Q) g = ap₂ ◌||◌ (never_past body P g.0) (never_past body Q g.1)
never_past body (res P) g = never_past body P g
never_past body (call k xs) g = ap is_many (guarded_from (λ l ys. true) body most_reached 576 k xs (omega arith) g)

-- nor is the limit passed
pub within_calls : (Δ : Defs) (P : Term) → EachCall (λ k xs. Guarded (Δ.body k)) P → ¬ PastCalls Δ most_reached P
within_calls Δ nil g p = elim p [ ]
within_calls Δ (tau _) g p = elim p [ ]
within_calls Δ (inp _ _) g p = elim p [ ]
within_calls Δ (out _ _ _) g p = elim p [ ]
within_calls Δ (bout _ _) g p = elim p [ ]
within_calls Δ (mat a b P) g p = within_calls Δ P g p
within_calls Δ (sum P Q) g (inl p) = within_calls Δ P g.0 p
within_calls Δ (sum P Q) g (inr p) = within_calls Δ Q g.1 p
within_calls Δ (par P Q) g (inl p) = within_calls Δ P g.0 p
within_calls Δ (par P Q) g (inr p) = within_calls Δ Q g.1 p
within_calls Δ (res P) g p = within_calls Δ P g p
within_calls Δ (call k xs) g p = found_within Δ most_reached 577 k xs _ (guarded-alone Δ most_reached 576 k xs (omega arith) g) p

-- The calls that a term's steps open have guarded bodies.
pub opens_guarded : (Δ : Defs) (n : ℕ) (P : Term) → Opens Δ n P → EachCall (λ k xs. Guarded (Δ.body k)) P
opens_guarded Δ n nil o = tt
opens_guarded Δ n (tau P) o = tt
opens_guarded Δ n (inp a P) o = tt
opens_guarded Δ n (out a b P) o = tt
opens_guarded Δ n (bout a P) o = tt
opens_guarded Δ n (mat a b P) o = opens_guarded Δ n P o
opens_guarded Δ n (sum P Q) o = (opens_guarded Δ n P o.0, opens_guarded Δ n Q o.1)
opens_guarded Δ n (par P Q) o = (opens_guarded Δ n P o.0, opens_guarded Δ n Q o.1)
opens_guarded Δ n (res P) o = opens_guarded Δ n P o
opens_guarded Δ zero (call k xs) o = elim o [ ]
opens_guarded Δ (suc n) (call k xs) o = each-guarded (Δ.body k) o.1

every_call : (C : ℕ → List ℕ → Type 0) → ((k : ℕ) (xs : List ℕ) → C k xs) → (P : Term) → EachCall C P
every_call C h nil = tt
every_call C h (tau P) = tt
every_call C h (inp a P) = tt
every_call C h (out a b P) = tt
every_call C h (bout a P) = tt
every_call C h (mat a b P) = every_call C h P
every_call C h (sum P Q) = (every_call C h P, every_call C h Q)
every_call C h (par P Q) = (every_call C h P, every_call C h Q)
every_call C h (res P) = every_call C h P
every_call C h (call k xs) = h k xs

-- For the definitions of an accepted question the test is never met: all that code relies on.
pub never_past_calls : (arities : List ℕ) (bodies : List Term) → BodiesAllowed arities arities bodies → (P : Term) → past_calls (body_of bodies) P ≡ false
never_past_calls arities bodies allowed P = never_past (body_of bodies) P (every_call (λ k xs. Guarded (body_of bodies k)) (λ k xs. body k) P)
  where
    body : (k : ℕ) → Guarded (body_of bodies k)
    body = body_at (λ a Q. Guarded Q) arities arities bodies allowed (λ a Q b. each-guarded Q (guarded-each (λ l ys. ⊥) Q b.calls_guarded)) tt
