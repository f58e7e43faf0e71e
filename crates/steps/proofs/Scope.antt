-- Transitions keep terms in scope: names below the number of names, calls of definitions that are there with as many names as the arity.
-- Assumes nothing.
use mathlib.Core.List.{List, [], ◌∷◌}
use mathlib.Core.Logic.{inl, inr}
use mathlib.Core.Path.{◌≡◌, refl, ◌∙◌}
use native.Mathlib.Omega.{arith}
use Prim.Native.Nat.{ℕ, zero, suc, ◌+◌, ◌<◌}
use lib.ListN.{length, get_or, length-map}
use Rattle.calculus.specs.Abstraction.{swap, Act, tau_a, inp_a, out_a, bout_a, weak}
use Rattle.calculus.specs.Term.{Term, nil, tau, inp, out, bout, mat, sum, par, res, call, lift, ren, inst}
use Rattle.calculus.specs.Free.{In, Free}
use Rattle.calculus.specs.Cond.{Cond}
use Rattle.calculus.specs.Definitions.{Defs}
use Rattle.calculus.proofs.Working.{cross, Trans, t_tau, t_inp, t_out, t_bout, t_mat, t_sum_l, t_sum_r, t_par_l, t_par_r, t_com_l, t_com_r, t_close_l, t_close_r, t_res, t_open, t_call}
use Rattle.terms.specs.Encoding.{NamesInScope, InScope}

-- every call, beneath prefixes too, is of a definition that is there, with as many names as its arity
abbrev pub CallsInScope : List ℕ → Term → Type 0
CallsInScope arities nil = Unit
CallsInScope arities (tau P) = CallsInScope arities P
CallsInScope arities (inp a P) = CallsInScope arities P
CallsInScope arities (out a b P) = CallsInScope arities P
CallsInScope arities (bout a P) = CallsInScope arities P
CallsInScope arities (mat a b P) = CallsInScope arities P
CallsInScope arities (sum P Q) = CallsInScope arities P × CallsInScope arities Q
CallsInScope arities (par P Q) = CallsInScope arities P × CallsInScope arities Q
CallsInScope arities (res P) = CallsInScope arities P
CallsInScope arities (call k xs) = (k < length arities) × (length xs ≡ get_or arities k 0)

module _ (free : ℕ) (arities : List ℕ) where
  names_free : (d : ℕ) (xs : List ℕ) → ((n : ℕ) → In n xs → n < d + free) → NamesInScope free d xs
  unfolding NamesInScope
  names_free d [] h = tt
  names_free d (x ∷ xs) h = (h x (inl refl), names_free d xs (λ n i. h n (inr i)))

  pub scope_calls : (d : ℕ) (P : Term) → InScope free arities d P → CallsInScope arities P
  unfolding InScope
  scope_calls d nil s = tt
  scope_calls d (tau P) s = scope_calls d P s
  scope_calls d (inp a P) s = scope_calls (1 + d) P s.1
  scope_calls d (out a b P) s = scope_calls d P s.2
  scope_calls d (bout a P) s = scope_calls (1 + d) P s.1
  scope_calls d (mat a b P) s = scope_calls d P s.2
  scope_calls d (sum P Q) s = (scope_calls d P s.0, scope_calls d Q s.1)
  scope_calls d (par P Q) s = (scope_calls d P s.0, scope_calls d Q s.1)
  scope_calls d (res P) s = scope_calls (1 + d) P s
  scope_calls d (call k xs) s = (s.0, s.1)

  under : (d : ℕ) (P : Term) → ((n : ℕ) → Free (suc n) P → n < d + free) → (n : ℕ) → Free n P → n < 1 + d + free
  under d P h zero f = omega arith
  under d P h (suc n) f = let k = h n f in omega arith

  pub in_scope : (d : ℕ) (P : Term) → ((n : ℕ) → Free n P → n < d + free) → CallsInScope arities P → InScope free arities d P
  unfolding InScope
  in_scope d nil h c = tt
  in_scope d (tau P) h c = in_scope d P h c
  in_scope d (inp a P) h c = (h a (inl refl), in_scope (1 + d) P (under d P (λ n f. h n (inr f))) c)
  in_scope d (out a b P) h c = (h a (inl refl), h b (inr (inl refl)), in_scope d P (λ n f. h n (inr (inr f))) c)
  in_scope d (bout a P) h c = (h a (inl refl), in_scope (1 + d) P (under d P (λ n f. h n (inr f))) c)
  in_scope d (mat a b P) h c = (h a (inl refl), h b (inr (inl refl)), in_scope d P (λ n f. h n (inr (inr f))) c)
  in_scope d (sum P Q) h c = (in_scope d P (λ n f. h n (inl f)) c.0, in_scope d Q (λ n f. h n (inr f)) c.1)
  in_scope d (par P Q) h c = (in_scope d P (λ n f. h n (inl f)) c.0, in_scope d Q (λ n f. h n (inr f)) c.1)
  in_scope d (res P) h c = in_scope (1 + d) P (under d P h) c
  in_scope d (call k xs) h c = (c.0, c.1, names_free d xs h)

module _ (arities : List ℕ) where
  pub calls_ren : (P : Term) (σ : ℕ → ℕ) → CallsInScope arities P → CallsInScope arities (ren σ P)
  calls_ren nil σ c = tt
  calls_ren (tau P) σ c = calls_ren P σ c
  calls_ren (inp a P) σ c = calls_ren P (lift σ) c
  calls_ren (out a b P) σ c = calls_ren P σ c
  calls_ren (bout a P) σ c = calls_ren P (lift σ) c
  calls_ren (mat a b P) σ c = calls_ren P σ c
  calls_ren (sum P Q) σ c = (calls_ren P σ c.0, calls_ren Q σ c.1)
  calls_ren (par P Q) σ c = (calls_ren P σ c.0, calls_ren Q σ c.1)
  calls_ren (res P) σ c = calls_ren P (lift σ) c
  calls_ren (call k xs) σ c = (c.0, length-map xs σ ∙ c.1)

  calls_weak : (α : Act) (P : Term) → CallsInScope arities P → CallsInScope arities (weak α P)
  calls_weak tau_a P c = c
  calls_weak (inp_a a) P c = calls_ren P suc c
  calls_weak (out_a a b) P c = c
  calls_weak (bout_a a) P c = calls_ren P suc c

  calls_cross : (α : Act) (P : Term) → CallsInScope arities P → CallsInScope arities (cross α P)
  calls_cross tau_a P c = c
  calls_cross (inp_a a) P c = calls_ren P swap c
  calls_cross (out_a a b) P c = c
  calls_cross (bout_a a) P c = calls_ren P swap c

  module _ (Δ : Defs) (bodies : (k : ℕ) → CallsInScope arities (Δ.body k)) where
    pub calls_residual : {P : Term} {M : Cond} {α : Act} {P' : Term} → Trans Δ P M α P' → CallsInScope arities P → CallsInScope arities P'
    calls_residual t_tau c = c
    calls_residual t_inp c = c
    calls_residual t_out c = c
    calls_residual t_bout c = c
    calls_residual (t_mat t) c = calls_residual t c
    calls_residual (t_sum_l t) c = calls_residual t c.0
    calls_residual (t_sum_r t) c = calls_residual t c.1
    calls_residual (t_par_l {Q = Q} {α = α} t) c = (calls_residual t c.0, calls_weak α Q c.1)
    calls_residual (t_par_r {P = P} {α = α} t) c = (calls_weak α P c.0, calls_residual t c.1)
    calls_residual (t_com_l {y = y} {Q' = Q'} t u) c = (calls_residual t c.0, calls_ren Q' (inst y) (calls_residual u c.1))
    calls_residual (t_com_r {y = y} {P' = P'} t u) c = (calls_ren P' (inst y) (calls_residual t c.0), calls_residual u c.1)
    calls_residual (t_close_l t u) c = (calls_residual t c.0, calls_residual u c.1)
    calls_residual (t_close_r t u) c = (calls_residual t c.0, calls_residual u c.1)
    calls_residual (t_res {α = α} {P' = P'} t s) c = calls_cross α P' (calls_residual t c)
    calls_residual (t_open t s) c = calls_residual t c
    calls_residual (t_call {k = k} {xs = xs} e t) c = calls_residual t (calls_ren (Δ.body k) _ (bodies k))
