-- The bits of a number, one set and the first one that another number has not. Assumes nothing.
use mathlib.Core.Bool.{true, false, true≢false, false≢true}
use mathlib.Core.Logic.{◌⊎◌, ◌≢◌, inl, inr, ⊎_elim}
use mathlib.Core.Path.{◌≡◌, refl, sym, ap, subst, ◌∙◌}
use native.Mathlib.Decide.{ℕ_discrete, dec_le}
use native.Mathlib.Nat.{eq-or-lt_of_le, not-suc-le-zero, div-eq_of_lt, div_self, zero-div, zero-mod, mod-lt, mul-div_cancel, pow-suc, one-le-pow}
use native.Mathlib.Omega.{arith}
use borrow.Author.Count.{below_more}
use Prim.Native.Nat.{ℕ, suc, max, ◌+◌, ◌-◌, ◌*◌, ◌/◌, ◌%◌, ◌^◌, ◌<◌, ◌≤◌}
use lib.Arith.{digits_mod}
use lib.Bits.{bit_or, or_step, or_shr, or_lt, or_add_and, and_le_r}
use lib.Pow.{pow-lt, pow-add}
use Rattle.std.specs.Prelude.{Some, None}
use Rattle.steps_reach.proofs.WalkLaws.{some_none, some_is}
use Rattle.steps_reach.specs.CallTable.{most_calls}
use Rattle.steps_places.specs.PlaceTable.{bit}
use Rattle.steps_places.specs.PlaceWalks.{WithBit, PendingIs, NextIs}

pub bit_small : (x i : ℕ) → bit x i < 2
unfolding bit
bit_small x i = mod-lt (x / 2 ^ i) (omega arith)

or_odd : (a b : ℕ) → bit_or a b % 2 ≡ max (a % 2) (b % 2)
or_odd a b =
    let l = mod-lt a {m = 2} (omega arith) in
    let k = mod-lt b {m = 2} (omega arith) in
    ap (λ x. x % 2) (or_step a b) ∙ digits_mod (bit_or (a / 2) (b / 2)) (omega arith)

bit-bit_or : (a b i : ℕ) → bit (bit_or a b) i ≡ max (bit a i) (bit b i)
unfolding bit
bit-bit_or a b i = ap (λ x. x % 2) (or_shr a b i) ∙ or_odd (a / 2 ^ i) (b / 2 ^ i)

pow_bit : (j : ℕ) → bit (2 ^ j) j ≡ 1
unfolding bit
pow_bit j = ap (λ x. x % 2) (div_self (one-le-pow j 2 (omega arith)))

pow_other : (j i : ℕ) → i ≢ j → bit (2 ^ j) i ≡ 0
unfolding bit
pow_other j i n = go (dec_le i j)
  where
    go : Dec (i ≤ j) → 2 ^ j / 2 ^ i % 2 ≡ 0
    go (no h) = ap (λ x. x % 2) (div-eq_of_lt (pow-lt {i = j} {j = i} (omega arith)))
    go (yes h) =
        let d : j ≡ suc (j - i - 1) + i = ⊎_elim (λ (e : i ≡ j). absurd (n e)) (λ (l : i < j). omega arith) (eq-or-lt_of_le h) in
        let e : 2 ^ j ≡ 2 ^ suc (j - i - 1) * 2 ^ i = ap (λ k. 2 ^ k) d ∙ pow-add 2 (suc (j - i - 1)) i in
        ap (λ x. x / 2 ^ i % 2) e ∙ ap (λ x. x % 2) (mul-div_cancel (2 ^ suc (j - i - 1)) (one-le-pow i 2 (omega arith)))
        ∙ ap (λ x. x % 2) (pow-suc 2 (j - i - 1) ∙ sum (2 ^ (j - i - 1))) ∙ digits_mod (2 ^ (j - i - 1)) (omega arith)
      where
        sum : (x : ℕ) → x * 2 ≡ x * 2 + 0
        sum x = omega arith

pub no_bit : (i : ℕ) → ¬ (bit 0 i ≡ 1)
unfolding bit
no_bit i e = absurd (omega (arith, e, ap (λ x. x % 2) (zero-div (2 ^ i)), zero-mod 2))

pub with_bit_is : (x j : ℕ) → j < most_calls → WithBit x j (bit_or x (2 ^ j))
with_bit_is x j small = record {
  set = omega (arith, bit-bit_or x (2 ^ j) j, pow_bit j, bit_small x j);
  kept = λ i h. omega (arith, bit-bit_or x (2 ^ j) i, bit_small (2 ^ j) i);
  only = λ i h. go i h (ℕ_discrete i j);
  grows = grown;
  more = λ h. ⊎_elim (λ (e : x ≡ bit_or x (2 ^ j)). absurd (h (ap (λ y. bit y j) e ∙ omega (arith, bit-bit_or x (2 ^ j) j, pow_bit j, bit_small x j))))
      (λ (l : x < bit_or x (2 ^ j)). l) (eq-or-lt_of_le grown);
  fits = λ l. or_lt 64 x (2 ^ j) l (pow-lt {i = j} {j = 64} small);
}
  where
    grown : x ≤ bit_or x (2 ^ j)
    grown = omega (arith, or_add_and x (2 ^ j), and_le_r x (2 ^ j))

    go : (i : ℕ) → bit (bit_or x (2 ^ j)) i ≡ 1 → Dec (i ≡ j) → (i ≡ j) ⊎ (bit x i ≡ 1)
    go i h (yes e) = inl e
    go i h (no n) = inr (omega (arith, bit-bit_or x (2 ^ j) i, pow_other j i n))

module _ (x y j : ℕ) where
  pub pending_there : bit x j ≡ 1 → ¬ (bit y j ≡ 1) → PendingIs x y j true
  pending_there a b = record { there = λ e. (a, b); done = λ e. absurd (true≢false e) }

  pub pending_absent : ¬ (bit x j ≡ 1) → PendingIs x y j false
  pending_absent a = record { there = λ e. absurd (false≢true e); done = λ e h. absurd (a h) }

  pub pending_done : bit y j ≡ 1 → PendingIs x y j false
  pending_done b = record { there = λ e. absurd (false≢true e); done = λ e h. b }

module _ (x y : ℕ) where
  -- x has no bit below n that y has not
  unfoldable pub DoneBelow : ℕ → Type 0
  DoneBelow n = (j : ℕ) → j < n → bit x j ≡ 1 → bit y j ≡ 1

  pub done_none : DoneBelow 0
  unfolding DoneBelow
  done_none j h = absurd (not-suc-le-zero h)

  pub done_more : (n : ℕ) → PendingIs x y n false → DoneBelow n → DoneBelow (n + 1)
  unfolding DoneBelow
  done_more n p h = below_more (λ j. bit x j ≡ 1 → bit y j ≡ 1) n h (p.done refl)

  pub next_there : (n : ℕ) → n < most_calls → PendingIs x y n true → NextIs x y (Some n)
  next_there n l p = record {
    pending = λ j e. subst (λ (j : ℕ). (j < most_calls) × (bit x j ≡ 1) × (¬ (bit y j ≡ 1))) (some_is e) (l, (p.there refl).0, (p.there refl).1);
    none = λ e. absurd (some_none e);
  }

  pub next_none : (n : ℕ) → most_calls ≤ n → DoneBelow n → NextIs x y None
  unfolding DoneBelow
  next_none n l h = record { pending = λ j e. absurd (some_none (sym e)); none = λ e j i. h j (omega arith) }
