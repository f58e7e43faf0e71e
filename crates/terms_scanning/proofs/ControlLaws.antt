-- The tests of checks 10 and 11, from a term's first byte and its subterms.
use mathlib.Core.Path.{◌≡◌, refl}
use mathlib.Core.Bool.{Bool, true, false, ◌&&◌}
use mathlib.Core.List.{List}
use Prim.Native.Nat.{ℕ, ◌≤◌, ◌<◌}
use native.Mathlib.Omega.{arith}
use borrow.Author.Tests.{le-leb, lt-leb, ne_eqb}
use Rattle.calculus.specs.Term.{Term, nil, tau, inp, out, bout, mat, sum, par, res, call}
use Rattle.terms.specs.Grammar.{sequential, parallel_outermost, guarded}
use Rattle.terms_scanning.specs.Scanning.{control_of, passing, combined}
use Rattle.terms_scanning.specs.declared.scan.Control.{Control}

-- By the first byte, as the code tells them apart.
module _ (t : ℕ) (p q : Control) where
  pub combined_parallel : t ≡ 7 → record { sequential = false; outermost = p.outermost && q.outermost; guarded = p.guarded && q.guarded } ≡ combined t p q
  unfolding combined
  combined_parallel e = rw e

  pub combined_restriction : t ≡ 8 → record { sequential = p.sequential && q.sequential; outermost = p.outermost && q.outermost; guarded = p.guarded && q.guarded } ≡ combined t p q
  unfolding combined
  combined_restriction e = rw e

  pub combined-call : t ≡ 9 → record { sequential = p.sequential && q.sequential; outermost = p.sequential && q.sequential; guarded = false } ≡ combined t p q
  unfolding combined
  combined-call e = rw e

  pub combined-prefix : 1 ≤ t → t < 5 → record { sequential = p.sequential && q.sequential; outermost = p.sequential && q.sequential; guarded = true } ≡ combined t p q
  unfolding combined
  combined-prefix l h =
      rw (ne_eqb t 7 (λ e. omega arith), ne_eqb t 8 (λ e. omega arith), le-leb 1 t l, le-leb t 4 (omega arith))

  pub combined_inaction : t < 1 → record { sequential = p.sequential && q.sequential; outermost = p.sequential && q.sequential; guarded = p.guarded && q.guarded } ≡ combined t p q
  unfolding combined
  combined_inaction h = let z : t ≡ 0 = omega arith in rw z

  pub combined-other : 5 ≤ t → (t ≡ 7 → ⊥) → (t ≡ 8 → ⊥) → (t ≡ 9 → ⊥) → record { sequential = p.sequential && q.sequential; outermost = p.sequential && q.sequential; guarded = p.guarded && q.guarded } ≡ combined t p q
  unfolding combined
  combined-other h a b c = rw (ne_eqb t 7 a, ne_eqb t 8 b, ne_eqb t 9 c, le-leb 1 t (omega arith), lt-leb t 4 (omega arith))

-- By the constructor.
and_true : (x : Bool) → (x && true) ≡ x
and_true true = refl
and_true false = refl

pub control_nil : control_of nil ≡ combined 0 passing passing
unfolding control_of combined passing sequential parallel_outermost guarded
control_nil = refl

pub control_tau : (P : Term) → control_of (tau P) ≡ combined 1 (control_of P) passing
unfolding control_of combined passing sequential parallel_outermost guarded
control_tau P = rw (and_true (sequential P))

pub control_inp : (a : ℕ) (P : Term) → control_of (inp a P) ≡ combined 2 (control_of P) passing
unfolding control_of combined passing sequential parallel_outermost guarded
control_inp a P = rw (and_true (sequential P))

pub control_out : (a b : ℕ) (P : Term) → control_of (out a b P) ≡ combined 3 (control_of P) passing
unfolding control_of combined passing sequential parallel_outermost guarded
control_out a b P = rw (and_true (sequential P))

pub control_bout : (a : ℕ) (P : Term) → control_of (bout a P) ≡ combined 4 (control_of P) passing
unfolding control_of combined passing sequential parallel_outermost guarded
control_bout a P = rw (and_true (sequential P))

pub control_mat : (a b : ℕ) (P : Term) → control_of (mat a b P) ≡ combined 5 (control_of P) passing
unfolding control_of combined passing sequential parallel_outermost guarded
control_mat a b P = rw (and_true (sequential P), and_true (guarded P))

pub control_sum : (P Q : Term) → control_of (sum P Q) ≡ combined 6 (control_of P) (control_of Q)
unfolding control_of combined sequential parallel_outermost guarded
control_sum P Q = refl

pub control_par : (P Q : Term) → control_of (par P Q) ≡ combined 7 (control_of P) (control_of Q)
unfolding control_of combined sequential parallel_outermost guarded
control_par P Q = refl

pub control_res : (P : Term) → control_of (res P) ≡ combined 8 (control_of P) passing
unfolding control_of combined passing sequential parallel_outermost guarded
control_res P = rw (and_true (sequential P), and_true (guarded P), and_true (parallel_outermost P))

pub control_call : (k : ℕ) (ns : List ℕ) → control_of (call k ns) ≡ combined 9 passing passing
unfolding control_of combined passing sequential parallel_outermost guarded
control_call k ns = refl
