-- The blocks of a run of slots, of 1, 16 or 256 slots each. Assumes nothing.
use mathlib.Core.Bool.{Bool, true, false, cond}
use mathlib.Core.Logic.{◌⊎◌, inl, inr}
use mathlib.Core.Path.{◌≡◌, refl, sym, subst}
use native.Mathlib.Omega.{arith}
use Prim.Native.Nat.{ℕ, ◌+◌, ◌-◌, ◌*◌, ◌/◌, ◌<◌, ◌≤◌, min}
use lib.Dec.{eqb}
use borrow.Author.Tests.{ne_eqb}
use Rattle.verdict_answers.specs.Striking.{Run, block_slots}

Width : ℕ → Type 0
Width b = (b ≡ 1) ⊎ ((b ≡ 16) ⊎ (b ≡ 256))

width_of : (level : ℕ) → Width (block_slots level)
unfolding block_slots Width
width_of level = go (eqb level 0) (eqb level 1)
  where
    go : (a b : Bool) → Width (cond a 1 (cond b 16 256))
    go true b = inl refl
    go false true = inr (inl refl)
    go false false = inr (inr refl)

-- width
pub width_none : (level : ℕ) → level ≡ 0 → 1 ≡ block_slots level
unfolding block_slots
width_none level e = rw e refl

pub width_one : (level : ℕ) → level ≡ 1 → 16 ≡ block_slots level
unfolding block_slots
width_one level e = rw e refl

pub width_more : (level : ℕ) → (level ≡ 0 → ⊥) → (level ≡ 1 → ⊥) → 256 ≡ block_slots level
unfolding block_slots
width_more level h g = rw (ne_eqb level 0 h, ne_eqb level 1 g) refl

pub width_some : (level : ℕ) → 0 < block_slots level
unfolding Width
width_some level = go (width_of level)
  where
    go : Width (block_slots level) → 0 < block_slots level
    go (inl e) = omega (arith, e)
    go (inr (inl e)) = omega (arith, e)
    go (inr (inr e)) = omega (arith, e)

pub width_most : (level : ℕ) → block_slots level ≤ 256
unfolding Width
width_most level = go (width_of level)
  where
    go : Width (block_slots level) → block_slots level ≤ 256
    go (inl e) = omega (arith, e)
    go (inr (inl e)) = omega (arith, e)
    go (inr (inr e)) = omega (arith, e)

-- A block begins within the run.
pub block_begins : (level size b k : ℕ) → b ≡ block_slots level → k < (size + b - 1) / b → b * k < size
unfolding Width
block_begins level size b k s = go (subst Width (sym s) (width_of level))
  where
    go : Width b → k < (size + b - 1) / b → b * k < size
    go (inl e) = subst (λ b. k < (size + b - 1) / b → b * k < size) (sym e) (λ h. omega arith)
    go (inr (inl e)) = subst (λ b. k < (size + b - 1) / b → b * k < size) (sym e) (λ h. omega arith)
    go (inr (inr e)) = subst (λ b. k < (size + b - 1) / b → b * k < size) (sym e) (λ h. omega arith)

-- Each slot of the run is in a block.
abbrev pub InBlock : ℕ → ℕ → ℕ → Type 0
InBlock size j b = (k : ℕ) × (k < (size + b - 1) / b) × (b * k ≤ j) × (j < b * k + b)

pub block_of : (level size b j : ℕ) → b ≡ block_slots level → j < size → InBlock size j b
unfolding Width
block_of level size b j s h = go (subst Width (sym s) (width_of level))
  where
    go : Width b → InBlock size j b
    go (inl e) = subst (InBlock size j) (sym e) (j, omega arith, omega arith, omega arith)
    go (inr (inl e)) = subst (InBlock size j) (sym e) (j / 16, omega arith, omega arith, omega arith)
    go (inr (inr e)) = subst (InBlock size j) (sym e) (j / 256, omega arith, omega arith, omega arith)

-- Block k of the run of `size` slots from `from` on, where blocks have `width` slots.
abbrev pub Blocks : ℕ → ℕ → ℕ → ℕ → ℕ → Type 0
Blocks from size width k = Run (from + width * k) (min width (from + size - (from + width * k)))

pub in_block : (from size width p j : ℕ) → from ≤ j → j < from + size → p ≤ j - from → j - from < p + width → Run (from + p) (min width (from + size - (from + p))) j
in_block from size width p j a b c d = (omega arith, omega arith)
