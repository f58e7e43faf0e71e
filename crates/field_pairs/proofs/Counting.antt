-- A loop without an exit, which says that a test fails nowhere. Assumes nothing.
use mathlib.Core.Path.{◌≡◌}
use mathlib.Core.Bool.{Bool, true, false}
use Prim.Native.Nat.{ℕ, ◌+◌, ◌<◌}
use native.Mathlib.Omega.{arith}
use borrow.Author.Count.{below_more}

-- Where the answer is yes, the numbers below i pass the test.
abbrev pub Passing : (ℕ → Type 0) → ℕ → Bool → Type 0
Passing holds i t = t ≡ true → (j : ℕ) → j < i → holds j

module _ (holds : ℕ → Type 0) where
  pub passing-start : (t : Bool) → Passing holds 0 t
  passing-start t q j l = absurd (omega arith)

  pub passing_failed : (i : ℕ) → Passing holds i false
  passing_failed i q = let z : ◌≡◌ {A = ℕ} 0 1 = cc in absurd (omega arith)

  pub passing_next : (i : ℕ) (t : Bool) → Passing holds i t → holds i → Passing holds (i + 1) t
  passing_next i t so h q = below_more holds i (so q) h
