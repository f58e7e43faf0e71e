-- A condition that merges the restricted name 0 with no other, and what is left of it outside the restriction. Assumes nothing.
use mathlib.Core.Bool.{true, ◌&&◌}
use mathlib.Core.List.{[], ◌∷◌}
use mathlib.Core.Path.{◌≡◌, refl, ap₂}
use native.Mathlib.Omega.{arith}
use Prim.Native.Nat.{ℕ, zero, suc}
use Rattle.calculus.specs.Cond.{Cond, map_p, Unif, cls}
use Rattle.calculus.proofs.Conditions.{◌~◌, E2, δ, ~_sym, ~_trans, ▷-all, lowered_alone, unsuc_~}
use Rattle.terms.proofs.Answers.{both_true}
use Rattle.steps.specs.Raw.{leaves_alone, restricted_alone, outside}

alone-same : (a b : ℕ) → leaves_alone a b ≡ true → δ 0 a ≡ δ 0 b
unfolding leaves_alone
alone-same zero zero e = refl
alone-same zero (suc b) e = let z : ◌≡◌ {A = ℕ} 0 1 = cc in absurd (omega arith)
alone-same (suc a) zero e = let z : ◌≡◌ {A = ℕ} 0 1 = cc in absurd (omega arith)
alone-same (suc a) (suc b) e = refl

same-alone : (a b : ℕ) → δ 0 a ≡ δ 0 b → leaves_alone a b ≡ true
unfolding leaves_alone
same-alone zero zero e = refl
same-alone zero (suc b) e = absurd (omega arith)
same-alone (suc a) zero e = absurd (omega arith)
same-alone (suc a) (suc b) e = refl

pub spared_alone : (M : Cond) → restricted_alone M ≡ true → Unif (δ 0) M
unfolding restricted_alone
spared_alone [] e = tt
spared_alone (p ∷ M) e =
    let (h, k) = both_true (leaves_alone p.0 p.1) (restricted_alone M) e in
    (alone-same p.0 p.1 h, spared_alone M k)

pub alone_spared : (M : Cond) → Unif (δ 0) M → restricted_alone M ≡ true
unfolding restricted_alone
alone_spared [] u = refl
alone_spared (p ∷ M) u = ap₂ ◌&&◌ (same-alone p.0 p.1 u.0) (alone_spared M u.1)

-- A match that leaves the restricted name alone says the same of the names outside it.
above {ℓ} : {A : Type ℓ} (f : ℕ → A) (a b : ℕ) → δ 0 a ≡ δ 0 b → f a ≡ f b → f (suc (outside a)) ≡ f (suc (outside b))
unfolding outside
above f zero zero d e = refl
above f zero (suc b) d e = absurd (omega arith)
above f (suc a) zero d e = absurd (omega arith)
above f (suc a) (suc b) d e = e

of_above {ℓ} : {A : Type ℓ} (f : ℕ → A) (a b : ℕ) → δ 0 a ≡ δ 0 b → f (suc (outside a)) ≡ f (suc (outside b)) → f a ≡ f b
unfolding outside
of_above f zero zero d e = refl
of_above f zero (suc b) d e = absurd (omega arith)
of_above f (suc a) zero d e = absurd (omega arith)
of_above f (suc a) (suc b) d e = e

unif_above {ℓ} : {A : Type ℓ} (f : ℕ → A) (M : Cond) → Unif (δ 0) M → Unif f M → Unif f (map_p suc (map_p outside M))
unif_above f [] d u = tt
unif_above f (p ∷ M) d u = (above f p.0 p.1 d.0 u.0, unif_above f M d.1 u.1)

of_unif_above {ℓ} : {A : Type ℓ} (f : ℕ → A) (M : Cond) → Unif (δ 0) M → Unif f (map_p suc (map_p outside M)) → Unif f M
of_unif_above f [] d u = tt
of_unif_above f (p ∷ M) d u = (of_above f p.0 p.1 d.0 u.0, of_unif_above f M d.1 u.1)

pub outside-~ : (M : Cond) → Unif (δ 0) M → M ~ map_p suc (map_p outside M)
outside-~ M d =
    let N : Cond = map_p suc (map_p outside M) in
    (unif_above (cls M) M d (E2 M), of_unif_above (cls N) M d (E2 N))

-- A condition N that is, up to equivalence, one on the names outside the restriction leaves the restricted name alone, and is that one.
pub outside_alone : (N M M₀ : Cond) → M ~ N → M ~ map_p suc M₀ → restricted_alone N ≡ true
outside_alone N M M₀ d s = alone_spared N (▷-all (δ 0) M N d.0 (lowered_alone M M₀ s))

pub outside-same : (N M M₀ : Cond) → M ~ N → M ~ map_p suc M₀ → M₀ ~ map_p outside N
outside-same N M M₀ d s =
    unsuc_~ M₀ (map_p outside N)
    (~_trans (map_p suc M₀) M (map_p suc (map_p outside N)) (~_sym M (map_p suc M₀) s)
    (~_trans M N (map_p suc (map_p outside N)) d (outside-~ N (▷-all (δ 0) M N d.0 (lowered_alone M M₀ s)))))
