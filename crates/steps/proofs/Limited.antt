-- A list of steps is given exactly if it passes neither limit. Assumes nothing.
use borrow.Author.Tests.{leb-true, leb-false, le-leb, lt-leb}
use mathlib.Core.Bool.{Bool, true, false, cond, ◌&&◌}
use mathlib.Core.List.{List, [], ◌∷◌}
use mathlib.Core.Logic.{◌⊎◌, inl, inr}
use mathlib.Core.Path.{◌≡◌, refl, subst}
use native.Mathlib.Omega.{arith}
use Prim.Native.Nat.{ℕ, ◌<◌, ◌≤◌}
use lib.Dec.{leb}
use lib.ListN.{length}
use Rattle.terms.proofs.Answers.{both_true}
use Rattle.calculus.specs.Lists.{◌∈◌, All}
use Rattle.steps.specs.Listed.{ListedStep, result_bytes}
use Rattle.steps.specs.Listing.{all_fit, unsettled, listed, limited}

-- a step whose result has more than `longest` bytes
abbrev pub Long : ℕ → List ListedStep → Type 0
Long longest ss = (s : ListedStep) × (s ∈ ss) × (longest < length (result_bytes s))

fits_not : (longest : ℕ) (ss : List ListedStep) → all_fit longest ss ≡ false → Long longest ss
unfolding all_fit
fits_not longest [] e = let z : ◌≡◌ {A = ℕ} 0 1 = cc in absurd (omega arith)
fits_not longest (s ∷ ss) e = go (leb (length (result_bytes s)) longest) refl e (λ d. fits_not longest ss d)
  where
    go : (b : Bool) → leb (length (result_bytes s)) longest ≡ b → b && all_fit longest ss ≡ false → (all_fit longest ss ≡ false → Long longest ss)
        → Long longest (s ∷ ss)
    go true h d r = let (t, m, l) = r d in (t, inr m, l)
    go false h d r = (s, inl refl, leb-false (length (result_bytes s)) longest h)

long_not : (longest : ℕ) (ss : List ListedStep) → Long longest ss → all_fit longest ss ≡ false
unfolding all_fit
long_not longest [] (t, x, l) = elim x [ ]
long_not longest (s ∷ ss) (t, inl e, l) =
    let k : longest < length (result_bytes s) = subst (λ u. longest < length (result_bytes u)) e l in
    rw (lt-leb (length (result_bytes s)) longest k) refl
long_not longest (s ∷ ss) (t, inr m, l) = rw (long_not longest ss (t, m, l)) (and_false (leb (length (result_bytes s)) longest))
  where
    and_false : (b : Bool) → b && false ≡ false
    and_false true = refl
    and_false false = refl

all_fit_lem : (longest : ℕ) (ss : List ListedStep) → all_fit longest ss ≡ true → All (λ s. length (result_bytes s) ≤ longest) ss
unfolding all_fit
all_fit_lem longest [] e = tt
all_fit_lem longest (s ∷ ss) e =
    let (h, k) = both_true (leb (length (result_bytes s)) longest) (all_fit longest ss) e in
    (leb-true (length (result_bytes s)) longest h, all_fit_lem longest ss k)

fit_all : (longest : ℕ) (ss : List ListedStep) → All (λ s. length (result_bytes s) ≤ longest) ss → all_fit longest ss ≡ true
unfolding all_fit
fit_all longest [] a = refl
fit_all longest (s ∷ ss) a = rw (le-leb (length (result_bytes s)) longest a.0, fit_all longest ss a.1) refl

module _ (longest most : ℕ) (found : List ListedStep) where
  pub limited-given : (ss : List ListedStep) → limited longest most found ≡ listed ss → found ≡ ss
  unfolding limited
  limited-given ss e = go (leb (length found) most && all_fit longest found) e
    where
      go : (b : Bool) → cond b (listed found) unsettled ≡ listed ss → found ≡ ss
      go true e = cc
      go false e = let z : ◌≡◌ {A = ℕ} 0 1 = cc in absurd (omega arith)

  pub limited-fits : (ss : List ListedStep) → limited longest most found ≡ listed ss → All (λ s. length (result_bytes s) ≤ longest) found
  unfolding limited
  limited-fits ss e = go (leb (length found) most) (all_fit longest found) refl e
    where
      go : (b c : Bool) → all_fit longest found ≡ c → cond (b && c) (listed found) unsettled ≡ listed ss
          → All (λ s. length (result_bytes s) ≤ longest) found
      go b true k e = all_fit_lem longest found k
      go true false k e = let z : ◌≡◌ {A = ℕ} 0 1 = cc in absurd (omega arith)
      go false false k e = let z : ◌≡◌ {A = ℕ} 0 1 = cc in absurd (omega arith)

  pub limited_few : (ss : List ListedStep) → limited longest most found ≡ listed ss → length ss ≤ most
  unfolding limited
  limited_few ss e = go (leb (length found) most) refl (all_fit longest found) e
    where
      go : (b : Bool) → leb (length found) most ≡ b → (c : Bool) → cond (b && c) (listed found) unsettled ≡ listed ss → length ss ≤ most
      go true h true e = let z : found ≡ ss = cc in subst (λ l. length l ≤ most) z (leb-true (length found) most h)
      go true h false e = let z : ◌≡◌ {A = ℕ} 0 1 = cc in absurd (omega arith)
      go false h c e = let z : ◌≡◌ {A = ℕ} 0 1 = cc in absurd (omega arith)

  pub limited-passed : limited longest most found ≡ unsettled → (most < length found) ⊎ Long longest found
  unfolding limited
  limited-passed e = go (leb (length found) most) refl (all_fit longest found) refl e
    where
      go : (b : Bool) → leb (length found) most ≡ b → (c : Bool) → all_fit longest found ≡ c → cond (b && c) (listed found) unsettled ≡ unsettled
          → (most < length found) ⊎ Long longest found
      go true h true k e = let z : ◌≡◌ {A = ℕ} 0 1 = cc in absurd (omega arith)
      go true h false k e = inr (fits_not longest found k)
      go false h c k e = inl (leb-false (length found) most h)

  pub limited_within : length found ≤ most → All (λ s. length (result_bytes s) ≤ longest) found → limited longest most found ≡ listed found
  unfolding limited
  limited_within h a = rw (le-leb (length found) most h, fit_all longest found a) refl

  pub limited-many : most < length found → limited longest most found ≡ unsettled
  unfolding limited
  limited-many h = rw (lt-leb (length found) most h) refl

  pub limited_long : Long longest found → limited longest most found ≡ unsettled
  unfolding limited
  limited_long h = rw (long_not longest found h) (go (leb (length found) most))
    where
      go : (b : Bool) → cond (b && false) (listed found) unsettled ≡ unsettled
      go true = refl
      go false = refl
