-- The table of calls: its names and rows, read and put in. Assumes nothing.
use mathlib.Core.Bool.{Bool, true, false, true≢false}
use mathlib.Core.List.{List}
use mathlib.Core.Logic.{⊎_elim}
use mathlib.Core.Path.{◌≡◌, sym, subst, ◌∙◌}
use native.Mathlib.Nat.{eq-or-lt_of_le, not-suc-le-zero}
use native.Mathlib.Omega.{arith}
use Prim.Native.Nat.{ℕ, ◌+◌, ◌-◌, ◌*◌, ◌<◌, ◌≤◌}
use lib.ListN.{length, get_or, set}
use lib.Seq.{get_or-set_same, get_or-set_other}
use borrow.Author.Tests.{lt-ltb, le-ltb, le-leb, lt-leb}
use Rattle.steps_reach.specs.CallTable.{name_in, NamesIs, Named, SameNamesIs, Held, HeldIs, ListedIs}

module _ (t : List ℕ) (row arity b : ℕ) where
  pub name_free : b < 128 → 0 ≡ name_in t row arity b
  unfolding name_in
  name_free h = simp (lt-ltb b 128 h)

  pub name_far : 128 ≤ b → arity ≤ b - 128 → 0 ≡ name_in t row arity b
  unfolding name_in
  name_far h l = simp (le-ltb b 128 h, le-leb arity (b - 128) l)

  pub name_there : 128 ≤ b → b - 128 < arity → name_in t row arity b ≡ get_or t (9 * row + (arity - (b - 128))) 0
  unfolding name_in
  name_there h l = simp (le-ltb b 128 h, lt-leb arity (b - 128) l)

-- What holds of all numbers below n and of n holds of all below n + 1.
below_more : (S : ℕ → Type 0) (n : ℕ) → ((j : ℕ) → j < n → S j) → S n → (j : ℕ) → j < n + 1 → S j
below_more S n h s j l = ⊎_elim (λ (e : j ≡ n). subst S (sym e) s) (λ (q : j < n). h j q) (eq-or-lt_of_le {n = j} {m = n} (omega arith))

module _ (s : List ℕ) (at : ℕ) (t : List ℕ) (row arity : ℕ) where
  pub names-none : (r : List ℕ) → NamesIs s at 0 t row arity r
  unfolding NamesIs
  names-none r j h = absurd (not-suc-le-zero h)

  pub names_more : (n : ℕ) (r : List ℕ) (v : ℕ) → n < length r → v ≡ name_in t row arity (get_or s (at + n) 0) → NamesIs s at n t row arity r
      → NamesIs s at (n + 1) t row arity (set r n v)
  unfolding NamesIs
  names_more n r v l e h = below_more (λ j. get_or (set r n v) j 0 ≡ name_in t row arity (get_or s (at + j) 0)) n
      (λ j q. get_or-set_other r n j v 0 (λ z. omega arith) ∙ h j q) (get_or-set_same r n v 0 l ∙ e)

module _ (t : List ℕ) (i : ℕ) (names : List ℕ) where
  pub named_none : Named t i names 0
  unfolding Named
  named_none j h = absurd (not-suc-le-zero h)

  pub named_more : (n : ℕ) → get_or t (9 * i + 1 + n) 0 ≡ get_or names n 0 → Named t i names n → Named t i names (n + 1)
  unfolding Named
  named_more n e h = below_more (λ j. get_or t (9 * i + 1 + j) 0 ≡ get_or names j 0) n h e

  pub named-all : (count n : ℕ) → count ≤ n → Named t i names n → SameNamesIs t i names count true
  unfolding Named
  named-all count n l h = record { named = λ e j q. h j (omega arith); other = λ e. absurd (true≢false e) }

  pub named_not : (count n : ℕ) → n < count → ¬ (get_or t (9 * i + 1 + n) 0 ≡ get_or names n 0) → SameNamesIs t i names count false
  unfolding Named
  named_not count n l h = record { named = λ e. absurd (true≢false (sym e)); other = λ e N. h (N n l) }

module _ (t : List ℕ) (k : ℕ) (names : List ℕ) (count : ℕ) where
  abbrev pub NotBelow : ℕ → Type 0
  NotBelow n = (i : ℕ) → i < n → ¬ Held t i k names count

  pub held_none : NotBelow 0
  held_none i h = absurd (not-suc-le-zero h)

  pub held_not : (n : ℕ) → NotBelow n → ¬ Held t n k names count → NotBelow (n + 1)
  held_not n h s = below_more (λ i. ¬ Held t i k names count) n h s

  pub held_other : (i : ℕ) → ¬ (get_or t (9 * i) 0 ≡ k) → HeldIs t i k names count false
  held_other i h = record { held = λ e. absurd (true≢false (sym e)); other = λ e (d, n). h d }

  pub held_same : (i : ℕ) → get_or t (9 * i) 0 ≡ k → (r : Bool) → SameNamesIs t i names count r → HeldIs t i k names count r
  held_same i e r S = record { held = λ z. (e, S.named z); other = λ z (d, n). S.other z n }

  pub listed_there : (size i : ℕ) → i < size → Held t i k names count → ListedIs t size k names count true
  listed_there size i l h = record { held = λ z. (i, l, h); absent = λ z. absurd (true≢false z) }

  pub listed_nowhere : (size n : ℕ) → size ≤ n → NotBelow n → ListedIs t size k names count false
  listed_nowhere size n l h = record { held = λ z. absurd (true≢false (sym z)); absent = λ z i q. h i (omega arith) }
