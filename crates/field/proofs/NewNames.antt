-- The new name of two parts: free in neither, and one of the names unless all of them are free. Assumes nothing.
use mathlib.Core.Bool.{Bool, true, false, cond}
use mathlib.Core.List.{List, ◌++◌}
use mathlib.Core.Logic.{inl, inr}
use mathlib.Core.Path.{◌≡◌, refl, sym, subst}
use native.Mathlib.Decide.{ℕ_discrete}
use native.Mathlib.Omega.{arith}
use Prim.Native.Nat.{ℕ, zero, suc, ◌+◌, ◌<◌, ◌≤◌}
use Rattle.calculus.specs.Term.{Term}
use Rattle.calculus.specs.Free.{In, fn}
use Rattle.calculus.specs.Distinction.{among}
use Rattle.calculus.proofs.Selection.{in_among, among_in}
use Rattle.calculus.proofs.UpToRenaming.{Either, either→fn, fn→either}
use Rattle.calculus.proofs.PublishedBisimulation.{AwayFrom}
use Rattle.field.specs.Situation.{Situation, missing, new_name}
use Rattle.field.specs.Situation.{Proper}
use Rattle.field.proofs.Proper.{either_below, proper_apart}

missing_within : (F : List ℕ) (n k : ℕ) → missing F n k ≤ n + k
unfolding missing
missing_within F n zero = omega arith
missing_within F n (suc k) = go (among F n) (missing_within F (suc n) k)
  where
    go : (b : Bool) → missing F (suc n) k ≤ suc n + k → cond b (missing F (suc n) k) n ≤ n + suc k
    go true h = omega arith
    go false h = omega arith

missing-new : (F : List ℕ) (n k : ℕ) → ((m : ℕ) → In m F → m < n + k) → ¬ In (missing F n k) F
unfolding missing
missing-new F n zero h i = let l = h n i in omega arith
missing-new F n (suc k) h i =
    go (among F n) refl i (missing-new F (suc n) k (λ m j. let l = h m j in omega arith))
  where
    go : (b : Bool) → among F n ≡ b → In (cond b (missing F (suc n) k) n) F → ¬ In (missing F (suc n) k) F → ⊥
    go true e j r = r j
    go false e j r = let z : ◌≡◌ {A = ℕ} 0 1 = cc (in_among F n j) in omega arith

missing-none : (F : List ℕ) (n k : ℕ) → missing F n k ≡ n + k → (m : ℕ) → n ≤ m → m < n + k → In m F
unfolding missing
missing-none F n zero e m h l = absurd (omega arith)
missing-none F n (suc k) e m h l =
    go (among F n) refl e (ℕ_discrete m n) (λ d h'. missing-none F (suc n) k d m h' (omega arith))
  where
    go : (b : Bool) → among F n ≡ b → cond b (missing F (suc n) k) n ≡ n + suc k → Dec (m ≡ n)
        → (missing F (suc n) k ≡ suc n + k → suc n ≤ m → In m F) → In m F
    go true t d (yes q) r = subst (λ j. In j F) (sym q) (among_in F n t)
    go true t d (no q) r = r (omega arith) (omega arith)
    go false t d q r = absurd (omega arith)

module _ (names : ℕ) (P Q : Term) (below : (n : ℕ) → Either n P Q → n < names) where
  pub new_within : new_name names P Q ≤ names
  unfolding new_name
  new_within = let h = missing_within (fn P ++ fn Q) 0 names in omega arith

  pub new_free : ¬ Either (new_name names P Q) P Q
  unfolding new_name
  new_free f =
      missing-new (fn P ++ fn Q) 0 names (λ m i. let l = below m (fn→either m P Q i) in omega arith) (either→fn (new_name names P Q) P Q f)

-- The new name of a proper situation is away from it.
pub new_away : (names : ℕ) (arities : List ℕ) (s : Situation) → Proper names arities s
    → AwayFrom (new_name names s.first s.second) s.first s.second s.apart
new_away names arities s p =
    let x : ℕ = new_name names s.first s.second in
    let new : ¬ Either x s.first s.second = new_free names s.first s.second (either_below names arities s.first s.second p.first p.second) in
    record { left = λ f. new (inl f); right = λ f. new (inr f); dist = λ b d. new (proper_apart names arities s p x b d).0 }
