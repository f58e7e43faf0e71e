-- Lists made by a function of the index, and loops that store such a list at once where `Filling` stores one number. Assumes nothing.
use mathlib.Core.Path.{◌≡◌, refl, ap, ◌∙◌}
use mathlib.Core.List.{List, [], ◌∷◌, map}
use Prim.Native.Nat.{ℕ, zero, suc, ◌+◌, ◌-◌, ◌<◌, ◌≤◌}
use native.Mathlib.Decide.{dec_lt}
use native.Mathlib.Nat.{add-zero}
use native.Mathlib.Omega.{arith}
use lib.ListN.{length, get_or, set, length-map}
use lib.Seq.{sets}
use Rattle.terms_renaming.proofs.Filling.{Filling, fill_step}
use Rattle.terms_bytes.proofs.Stores.{get_d_map}
use Rattle.steps.specs.Listed.{names_from}

-- The list of f 0, f 1, up to f (n - 1).
names_at : (n k i : ℕ) → i < k → get_or (names_from n k) i 0 ≡ n + i
unfolding names_from
names_at n zero i h = absurd (omega arith)
names_at n (suc k) zero h = omega arith
names_at n (suc k) (suc i) h = names_at (suc n) k i (omega arith) ∙ omega arith

length-names : (n k : ℕ) → length (names_from n k) ≡ k
unfolding names_from
length-names n zero = refl
length-names n (suc k) = ap suc (length-names (suc n) k)

pub length-mapped : (f : ℕ → ℕ) (n : ℕ) → length (map f (names_from 0 n)) ≡ n
length-mapped f n = length-map (names_from 0 n) f ∙ length-names 0 n

pub mapped_at : (f : ℕ → ℕ) (n i : ℕ) → i < n → get_or (map f (names_from 0 n)) i 0 ≡ f i
mapped_at f n i h = get_d_map f (names_from 0 n) i (omega (arith, length-names 0 n)) ∙ ap f (names_at 0 n i h ∙ omega arith)

module _ (f : ℕ → ℕ) (l₀ : List ℕ) where
  -- a list is stored
  pub fill_run : (l : List ℕ) (i : ℕ) (xs : List ℕ) → i + length xs ≤ length l₀ → ((j : ℕ) → j < length xs → get_or xs j 0 ≡ f (i + j)) → Filling f l₀ l i
      → Filling f l₀ (sets l i xs) (i + length xs)
  fill_run l i [] h e F = rw add-zero F
  fill_run l i (x ∷ xs) h e F =
      let n : i + suc (length xs) ≡ suc i + length xs = omega arith in
      let m : suc i ≡ i + 1 = omega arith in
      rw (n, m)
      (fill_run (set l i x) (i + 1) xs (omega arith) (λ j k. e (suc j) (omega arith) ∙ ap f (omega arith))
      (fill_step f l₀ l i x (omega arith) (e 0 (omega arith) ∙ ap f (add-zero i)) F))

  -- the next n are right as they were
  pub fill-past : (l : List ℕ) (i n : ℕ) → ((j : ℕ) → j < n → get_or l₀ (i + j) 0 ≡ f (i + j)) → Filling f l₀ l i → Filling f l₀ l (i + n)
  fill-past l i n e F = record { done = λ k h. go k h (dec_lt k i); rest = λ k h. F.rest k (omega arith); len = F.len }
    where
      go : (k : ℕ) → k < i + n → Dec (k < i) → get_or l k 0 ≡ f k
      go k h (yes b) = F.done k b
      go k h (no b) =
          let q : i + (k - i) ≡ k = omega arith in
          F.rest k (omega arith) ∙ rw q at (e (k - i) (omega arith))
