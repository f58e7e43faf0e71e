-- A loop that goes once over an array and stores at each index: what is done, and what is as it was. Assumes nothing.
use mathlib.Core.Path.{◌≡◌, refl, ◌∙◌}
use mathlib.Core.Logic.{⊎_elim}
use mathlib.Core.List.{List}
use Prim.Native.Nat.{ℕ, ◌+◌, ◌<◌, ◌≤◌}
use native.Mathlib.Nat.{eq-or-lt_of_le}
use native.Mathlib.Omega.{arith}
use lib.ListN.{length, get_or, set, length-set}
use lib.Seq.{get_or-set_same, get_or-set_other}

pub record Filling (f : ℕ → ℕ) (l₀ l : List ℕ) (i : ℕ) : Type 0 where
  pub done : (n : ℕ) → n < i → get_or l n 0 ≡ f n
  pub rest : (n : ℕ) → i ≤ n → get_or l n 0 ≡ get_or l₀ n 0
  pub len : length l ≡ length l₀

pub fill_start : (f : ℕ → ℕ) (l : List ℕ) → Filling f l l 0
fill_start f l = record { done = λ n h. absurd (omega arith); rest = λ n h. refl; len = refl }

pub fill_step : (f : ℕ → ℕ) (l₀ l : List ℕ) (i v : ℕ) → i < length l₀ → v ≡ f i → Filling f l₀ l i → Filling f l₀ (set l i v) (i + 1)
fill_step f l₀ l i v h e F = record {
  done = λ n lt. ⊎_elim
      (λ q. rw (q, get_or-set_same l i v 0 (omega (arith, F.len))) e)
      (λ q. get_or-set_other l i n v 0 (λ z. omega arith) ∙ F.done n (omega arith))
      (eq-or-lt_of_le {n = n} {m = i} (omega arith));
  rest = λ n le. get_or-set_other l i n v 0 (λ z. omega arith) ∙ F.rest n (omega arith);
  len = length-set l i v ∙ F.len;
}
