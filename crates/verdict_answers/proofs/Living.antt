-- The situations that are left, told by one flag for each situation found: 0 while it is left, 1 once it is struck out. Assumes nothing.
use mathlib.Core.Bool.{Bool, true, false, cond}
use mathlib.Core.List.{List, [], ◌∷◌}
use mathlib.Core.Logic.{◌⊎◌, inl, inr, ⊎_elim}
use mathlib.Core.Path.{◌≡◌, refl, sym, ap}
use native.Mathlib.Omega.{arith}
use Prim.Native.Nat.{ℕ, zero, suc, ◌<◌}
use lib.Dec.{eqb}
use lib.ListN.{length, get_or, set, replicate}
use borrow.Author.Tests.{eq-eqb, eqb-true}
use Rattle.calculus.specs.Lists.{◌∈◌}
use Rattle.field.specs.Situation.{Situation}
use Rattle.verdict_answers.specs.Striking.{living, zeros}

-- A situation is left exactly if it stands at a number whose flag is 0.
pub record LivesAt (flags : List ℕ) (known : List Situation) (s : Situation) : Type 0 where
  pub number : ℕ
  pub below : number < length flags
  pub within : number < length known
  pub flag : get_or flags number 1 ≡ 0
  pub is : get_or known number s ≡ s

lives_cons : (f : ℕ) (fs : List ℕ) (t : Situation) (ss : List Situation) (s : Situation) → LivesAt fs ss s → LivesAt (f ∷ fs) (t ∷ ss) s
lives_cons f fs t ss s l =
    record { number = suc l.number; below = omega (arith, l.below); within = omega (arith, l.within); flag = l.flag; is = l.is }

pub living-at : (flags : List ℕ) (known : List Situation) (s : Situation) → s ∈ living flags known → LivesAt flags known s
unfolding living
living-at [] known s m = elim m [ ]
living-at (f ∷ fs) [] s m = elim m [ ]
living-at (f ∷ fs) (t ∷ ss) s m = go (eqb f 0) refl m (λ n. living-at fs ss s n)
  where
    go : (b : Bool) → eqb f 0 ≡ b → s ∈ cond b (t ∷ living fs ss) (living fs ss) → (s ∈ living fs ss → LivesAt fs ss s) → LivesAt (f ∷ fs) (t ∷ ss) s
    go true e (inl d) ih = record { number = 0; below = omega arith; within = omega arith; flag = eqb-true f 0 e; is = sym d }
    go true e (inr n) ih = lives_cons f fs t ss s (ih n)
    go false e n ih = lives_cons f fs t ss s (ih n)

pub at-living : (flags : List ℕ) (known : List Situation) (i : ℕ) (d : Situation) → i < length flags → i < length known → get_or flags i 1 ≡ 0
    → get_or known i d ∈ living flags known
unfolding living
at-living [] known i d h k e = absurd (omega arith)
at-living (f ∷ fs) [] i d h k e = absurd (omega arith)
at-living (f ∷ fs) (t ∷ ss) zero d h k e = go (eqb f 0) (eq-eqb f 0 e)
  where
    go : (b : Bool) → b ≡ true → t ∈ cond b (t ∷ living fs ss) (living fs ss)
    go true p = inl refl
    go false p = let z : ◌≡◌ {A = ℕ} 0 1 = cc in absurd (omega arith)
at-living (f ∷ fs) (t ∷ ss) (suc i) d h k e = go (eqb f 0) (at-living fs ss i d (omega arith) (omega arith) e)
  where
    go : (b : Bool) → get_or ss i d ∈ living fs ss → get_or ss i d ∈ cond b (t ∷ living fs ss) (living fs ss)
    go true m = inr m
    go false m = m

-- Striking out number i.
pub struck_either : (flags : List ℕ) (known : List Situation) (i : ℕ) (d s : Situation) → s ∈ living flags known
    → (s ≡ get_or known i d) ⊎ (s ∈ living (set flags i 1) known)
unfolding living
struck_either [] known i d s m = elim m [ ]
struck_either (f ∷ fs) [] i d s m = elim m [ ]
struck_either (f ∷ fs) (t ∷ ss) zero d s m = go (eqb f 0) m
  where
    go : (b : Bool) → s ∈ cond b (t ∷ living fs ss) (living fs ss) → (s ≡ t) ⊎ (s ∈ living fs ss)
    go true (inl e) = inl e
    go true (inr n) = inr n
    go false n = inr n
struck_either (f ∷ fs) (t ∷ ss) (suc i) d s m = go (eqb f 0) m (λ n. struck_either fs ss i d s n)
  where
    go : (b : Bool) → s ∈ cond b (t ∷ living fs ss) (living fs ss) → (s ∈ living fs ss → (s ≡ get_or ss i d) ⊎ (s ∈ living (set fs i 1) ss))
        → (s ≡ get_or ss i d) ⊎ (s ∈ cond b (t ∷ living (set fs i 1) ss) (living (set fs i 1) ss))
    go true (inl e) ih = inr (inl e)
    go true (inr n) ih = ⊎_elim (λ e. inl e) (λ k. inr (inr k)) (ih n)
    go false n ih = ih n

pub struck_within : (flags : List ℕ) (known : List Situation) (i : ℕ) (s : Situation) → s ∈ living (set flags i 1) known → s ∈ living flags known
unfolding living
struck_within [] known i s m = elim m [ ]
struck_within (f ∷ fs) [] zero s m = absurd m
struck_within (f ∷ fs) [] (suc i) s m = absurd m
struck_within (f ∷ fs) (t ∷ ss) zero s m = go (eqb f 0)
  where
    go : (b : Bool) → s ∈ cond b (t ∷ living fs ss) (living fs ss)
    go true = inr m
    go false = m
struck_within (f ∷ fs) (t ∷ ss) (suc i) s m = go (eqb f 0) m (λ n. struck_within fs ss i s n)
  where
    go : (b : Bool) → s ∈ cond b (t ∷ living (set fs i 1) ss) (living (set fs i 1) ss) → (s ∈ living (set fs i 1) ss → s ∈ living fs ss)
        → s ∈ cond b (t ∷ living fs ss) (living fs ss)
    go true (inl e) ih = inl e
    go true (inr n) ih = inr (ih n)
    go false n ih = ih n

-- At first all are left.
pub all-living : (known : List Situation) → living (replicate (length known) 0) known ≡ known
unfolding living
all-living [] = refl
all-living (s ∷ ss) = ap (s ∷◌) (all-living ss)

pub struck_fewer : (flags : List ℕ) (i : ℕ) → i < length flags → get_or flags i 1 ≡ 0 → zeros (set flags i 1) < zeros flags
unfolding zeros
struck_fewer [] i h e = absurd (omega arith)
struck_fewer (f ∷ fs) zero h e = go (eqb f 0) (eq-eqb f 0 e)
  where
    go : (b : Bool) → b ≡ true → zeros fs < cond b (suc (zeros fs)) (zeros fs)
    go true p = omega arith
    go false p = let z : ◌≡◌ {A = ℕ} 0 1 = cc in absurd (omega arith)
struck_fewer (f ∷ fs) (suc i) h e = go (eqb f 0) (struck_fewer fs i (omega arith) e)
  where
    go : (b : Bool) → zeros (set fs i 1) < zeros fs → cond b (suc (zeros (set fs i 1))) (zeros (set fs i 1)) < cond b (suc (zeros fs)) (zeros fs)
    go true l = omega arith
    go false l = l
