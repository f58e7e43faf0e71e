-- Tidied terms: tidying keeps the free names, commutes with renaming, and done twice is done once. A restriction that goes binds nothing:
-- what stands beneath it is a term lifted over it (`used?`). Assumes nothing.
use Prim.Native.Nat.{ℕ, zero, suc}
use mathlib.Core.Bool.{Bool, true, false, cond}
use mathlib.Core.Logic.{inl, inr}
use mathlib.Core.Path.{◌≡◌, refl, sym, ◌∙◌, ap, ap₂, subst}
use native.Mathlib.Nat.{suc_inj, suc-ne-zero}
use native.Mathlib.Omega.{arith}
use Rattle.calculus.specs.Distinction.{among}
use Rattle.calculus.specs.Free.{Free, fn}
use Rattle.calculus.specs.Term.{Term, nil, tau, inp, out, bout, mat, sum, par, res, call, lift, ren}
use Rattle.calculus.specs.Tidy.{outside, restrict_used, tidy}
use Rattle.calculus.proofs.FreeNames.{free_ren, of_free_ren, ren_ext, free→fn, fn→free}
use Rattle.calculus.proofs.Renaming.{◌∘◌, ren_id, ren-∘, ren_square, ren_triangle}
use Rattle.calculus.proofs.Selection.{in_among, among_in}
use Rattle.calculus.proofs.WorkingNames.{free_at}

pub outside_suc : (P : Term) → ren outside (ren suc P) ≡ P
unfolding outside
outside_suc P = ren_triangle outside suc (λ n. n) P (λ n. refl) ∙ ren_id P

lifted_not_used : (P : Term) → ¬ Free 0 (ren suc P)
lifted_not_used P f = let (n, _, e) = of_free_ren suc P 0 f in suc-ne-zero n (sym e)

pub suc_outside : (P : Term) → ¬ Free 0 P → ren suc (ren outside P) ≡ P
unfolding outside
suc_outside P h = ren-∘ suc outside P ∙ ren_ext (suc ∘ outside) (λ n. n) P away ∙ ren_id P
  where
    away : (n : ℕ) → Free n P → suc (outside n) ≡ n
    away zero f = absurd (h f)
    away (suc n) f = refl

-- the restricted name is free in P, or P is lifted over the restriction
pub data Used (P : Term) : Type 0 where
  used : Free 0 P → Used P
  unused : (Q : Term) → P ≡ ren suc Q → Used P

pub used? : (P : Term) → Used P
used? P = go (among (fn P) 0) refl
  where
    go : (b : Bool) → among (fn P) 0 ≡ b → Used P
    go true e = used (fn→free 0 P (among_in (fn P) 0 e))
    go false e =
        unused (ren outside P) (sym (suc_outside P (λ f. let z : true ≡ false = sym (in_among (fn P) 0 (free→fn 0 P f)) ∙ e in
        let o : ◌≡◌ {A = ℕ} 0 1 = cc in omega arith)))

pub restrict-used : (P : Term) → Free 0 P → restrict_used P ≡ res P
unfolding restrict_used
restrict-used P f = ap (λ b. cond b (res P) (ren outside P)) (in_among (fn P) 0 (free→fn 0 P f))

pub restrict_lifted : (P : Term) → restrict_used (ren suc P) ≡ P
unfolding restrict_used
restrict_lifted P = go (among (fn (ren suc P)) 0) refl
  where
    go : (b : Bool) → among (fn (ren suc P)) 0 ≡ b → cond b (res (ren suc P)) (ren outside (ren suc P)) ≡ P
    go true e = absurd (lifted_not_used P (fn→free 0 (ren suc P) (among_in (fn (ren suc P)) 0 e)))
    go false e = outside_suc P

-- Free names.
free_restrict : (P : Term) (n : ℕ) → Free (suc n) P → Free n (restrict_used P)
free_restrict P n f = go (used? P)
  where
    go : Used P → Free n (restrict_used P)
    go (used u) = subst (λ X. Free n X) (sym (restrict-used P u)) f
    go (unused Q e) =
        let (m, g, k) = of_free_ren suc Q (suc n) (subst (λ X. Free (suc n) X) e f) in
        subst (λ X. Free n X) (sym (restrict_lifted Q) ∙ ap restrict_used (sym e)) (free_at n m Q (suc_inj k) g)

of_free_restrict : (P : Term) (n : ℕ) → Free n (restrict_used P) → Free (suc n) P
of_free_restrict P n f = go (used? P)
  where
    go : Used P → Free (suc n) P
    go (used u) = subst (λ X. Free n X) (restrict-used P u) f
    go (unused Q e) =
        subst (λ X. Free (suc n) X) (sym e) (free_ren suc Q n (subst (λ X. Free n X) (ap restrict_used e ∙ restrict_lifted Q) f))

pub free_tidy : (n : ℕ) (P : Term) → Free n P → Free n (tidy P)
unfolding tidy
free_tidy n nil f = elim f [ ]
free_tidy n (tau P) f = free_tidy n P f
free_tidy n (inp a P) (inl e) = inl e
free_tidy n (inp a P) (inr f) = inr (free_tidy (suc n) P f)
free_tidy n (out a b P) (inl e) = inl e
free_tidy n (out a b P) (inr (inl e)) = inr (inl e)
free_tidy n (out a b P) (inr (inr f)) = inr (inr (free_tidy n P f))
free_tidy n (bout a P) (inl e) = inl e
free_tidy n (bout a P) (inr f) = inr (free_tidy (suc n) P f)
free_tidy n (mat a b P) (inl e) = inl e
free_tidy n (mat a b P) (inr (inl e)) = inr (inl e)
free_tidy n (mat a b P) (inr (inr f)) = inr (inr (free_tidy n P f))
free_tidy n (sum P Q) (inl f) = inl (free_tidy n P f)
free_tidy n (sum P Q) (inr f) = inr (free_tidy n Q f)
free_tidy n (par P Q) (inl f) = inl (free_tidy n P f)
free_tidy n (par P Q) (inr f) = inr (free_tidy n Q f)
free_tidy n (res P) f = free_restrict (tidy P) n (free_tidy (suc n) P f)
free_tidy n (call k xs) f = f

pub of_free_tidy : (n : ℕ) (P : Term) → Free n (tidy P) → Free n P
unfolding tidy
of_free_tidy n nil f = elim f [ ]
of_free_tidy n (tau P) f = of_free_tidy n P f
of_free_tidy n (inp a P) (inl e) = inl e
of_free_tidy n (inp a P) (inr f) = inr (of_free_tidy (suc n) P f)
of_free_tidy n (out a b P) (inl e) = inl e
of_free_tidy n (out a b P) (inr (inl e)) = inr (inl e)
of_free_tidy n (out a b P) (inr (inr f)) = inr (inr (of_free_tidy n P f))
of_free_tidy n (bout a P) (inl e) = inl e
of_free_tidy n (bout a P) (inr f) = inr (of_free_tidy (suc n) P f)
of_free_tidy n (mat a b P) (inl e) = inl e
of_free_tidy n (mat a b P) (inr (inl e)) = inr (inl e)
of_free_tidy n (mat a b P) (inr (inr f)) = inr (inr (of_free_tidy n P f))
of_free_tidy n (sum P Q) (inl f) = inl (of_free_tidy n P f)
of_free_tidy n (sum P Q) (inr f) = inr (of_free_tidy n Q f)
of_free_tidy n (par P Q) (inl f) = inl (of_free_tidy n P f)
of_free_tidy n (par P Q) (inr f) = inr (of_free_tidy n Q f)
of_free_tidy n (res P) f = of_free_tidy (suc n) P (of_free_restrict (tidy P) n f)
of_free_tidy n (call k xs) f = f

-- Renaming.
restrict-ren : (ρ : ℕ → ℕ) (P : Term) → restrict_used (ren (lift ρ) P) ≡ ren ρ (restrict_used P)
restrict-ren ρ P = go (used? P)
  where
    go : Used P → restrict_used (ren (lift ρ) P) ≡ ren ρ (restrict_used P)
    go (used u) = restrict-used (ren (lift ρ) P) (free_ren (lift ρ) P 0 u) ∙ ap (ren ρ) (sym (restrict-used P u))
    go (unused Q e) =
        ap (λ X. restrict_used (ren (lift ρ) X)) e ∙ ap restrict_used (ren_square (lift ρ) suc suc ρ Q (λ n. refl)) ∙ restrict_lifted (ren ρ Q)
        ∙ ap (ren ρ) (sym (restrict_lifted Q) ∙ ap restrict_used (sym e))

pub tidy-ren : (ρ : ℕ → ℕ) (P : Term) → tidy (ren ρ P) ≡ ren ρ (tidy P)
unfolding tidy
tidy-ren ρ nil = refl
tidy-ren ρ (tau P) = ap tau (tidy-ren ρ P)
tidy-ren ρ (inp a P) = ap (inp (ρ a)) (tidy-ren (lift ρ) P)
tidy-ren ρ (out a b P) = ap (out (ρ a) (ρ b)) (tidy-ren ρ P)
tidy-ren ρ (bout a P) = ap (bout (ρ a)) (tidy-ren (lift ρ) P)
tidy-ren ρ (mat a b P) = ap (mat (ρ a) (ρ b)) (tidy-ren ρ P)
tidy-ren ρ (sum P Q) = ap₂ sum (tidy-ren ρ P) (tidy-ren ρ Q)
tidy-ren ρ (par P Q) = ap₂ par (tidy-ren ρ P) (tidy-ren ρ Q)
tidy-ren ρ (res P) = ap restrict_used (tidy-ren (lift ρ) P) ∙ restrict-ren ρ (tidy P)
tidy-ren ρ (call k xs) = refl

-- Once is enough.
tidy-restrict : (P : Term) → tidy P ≡ P → tidy (restrict_used P) ≡ restrict_used P
unfolding tidy
tidy-restrict P h = go (used? P)
  where
    go : Used P → tidy (restrict_used P) ≡ restrict_used P
    go (used u) = ap tidy (restrict-used P u) ∙ ap restrict_used h
    go (unused Q e) =
        let s : restrict_used P ≡ Q = ap restrict_used e ∙ restrict_lifted Q in
        let k : ren suc (tidy Q) ≡ ren suc Q = sym (tidy-ren suc Q) ∙ ap tidy (sym e) ∙ h ∙ e in
        ap tidy s ∙ sym (outside_suc (tidy Q)) ∙ ap (ren outside) k ∙ outside_suc Q ∙ sym s

pub tidy-tidy : (P : Term) → tidy (tidy P) ≡ tidy P
unfolding tidy
tidy-tidy nil = refl
tidy-tidy (tau P) = ap tau (tidy-tidy P)
tidy-tidy (inp a P) = ap (inp a) (tidy-tidy P)
tidy-tidy (out a b P) = ap (out a b) (tidy-tidy P)
tidy-tidy (bout a P) = ap (bout a) (tidy-tidy P)
tidy-tidy (mat a b P) = ap (mat a b) (tidy-tidy P)
tidy-tidy (sum P Q) = ap₂ sum (tidy-tidy P) (tidy-tidy Q)
tidy-tidy (par P Q) = ap₂ par (tidy-tidy P) (tidy-tidy Q)
tidy-tidy (res P) = tidy-restrict (tidy P) (tidy-tidy P)
tidy-tidy (call k xs) = refl

-- Nothing is left to go: beneath every restriction of a tidied term, however deep, its name is free.
abbrev pub UsesAll : Term → Type 0
UsesAll nil = Unit {0}
UsesAll (tau P) = UsesAll P
UsesAll (inp a P) = UsesAll P
UsesAll (out a b P) = UsesAll P
UsesAll (bout a P) = UsesAll P
UsesAll (mat a b P) = UsesAll P
UsesAll (sum P Q) = UsesAll P × UsesAll Q
UsesAll (par P Q) = UsesAll P × UsesAll Q
UsesAll (res P) = Free 0 P × UsesAll P
UsesAll (call k xs) = Unit {0}

of_free_lift : (ρ : ℕ → ℕ) (P : Term) → Free 0 (ren (lift ρ) P) → Free 0 P
of_free_lift ρ P f = let (n, g, e) = of_free_ren (lift ρ) P 0 f in go n g e
  where
    go : (n : ℕ) → Free n P → 0 ≡ lift ρ n → Free 0 P
    go zero g e = g
    go (suc n) g e = absurd (suc-ne-zero (ρ n) (sym e))

of_uses_ren : (ρ : ℕ → ℕ) (P : Term) → UsesAll (ren ρ P) → UsesAll P
of_uses_ren ρ nil u = tt
of_uses_ren ρ (tau P) u = of_uses_ren ρ P u
of_uses_ren ρ (inp a P) u = of_uses_ren (lift ρ) P u
of_uses_ren ρ (out a b P) u = of_uses_ren ρ P u
of_uses_ren ρ (bout a P) u = of_uses_ren (lift ρ) P u
of_uses_ren ρ (mat a b P) u = of_uses_ren ρ P u
of_uses_ren ρ (sum P Q) (u, v) = (of_uses_ren ρ P u, of_uses_ren ρ Q v)
of_uses_ren ρ (par P Q) (u, v) = (of_uses_ren ρ P u, of_uses_ren ρ Q v)
of_uses_ren ρ (res P) (f, u) = (of_free_lift ρ P f, of_uses_ren (lift ρ) P u)
of_uses_ren ρ (call k xs) u = tt

uses_restrict : (P : Term) → UsesAll P → UsesAll (restrict_used P)
uses_restrict P u = go (used? P)
  where
    go : Used P → UsesAll (restrict_used P)
    go (used f) = subst UsesAll (sym (restrict-used P f)) (f, u)
    go (unused Q e) = subst UsesAll (sym (ap restrict_used e ∙ restrict_lifted Q)) (of_uses_ren suc Q (subst UsesAll e u))

pub tidied_uses_all : (P : Term) → UsesAll (tidy P)
unfolding tidy
tidied_uses_all nil = tt
tidied_uses_all (tau P) = tidied_uses_all P
tidied_uses_all (inp a P) = tidied_uses_all P
tidied_uses_all (out a b P) = tidied_uses_all P
tidied_uses_all (bout a P) = tidied_uses_all P
tidied_uses_all (mat a b P) = tidied_uses_all P
tidied_uses_all (sum P Q) = (tidied_uses_all P, tidied_uses_all Q)
tidied_uses_all (par P Q) = (tidied_uses_all P, tidied_uses_all Q)
tidied_uses_all (res P) = uses_restrict (tidy P) (tidied_uses_all P)
tidied_uses_all (call k xs) = tt
