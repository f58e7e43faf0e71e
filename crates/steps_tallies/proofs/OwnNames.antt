-- Which renamings the numbers of candidates are said of. Assumes nothing.
use mathlib.Core.Path.{refl, ap}
use Prim.Native.Nat.{ℕ, zero, suc, ◌-◌, ◌≤◌}
use native.Mathlib.Omega.{arith}
use Rattle.calculus.specs.Term.{lift}
use Rattle.steps_tallies.specs.Candidates.{OwnNamesIf}

-- The names of a part stand for themselves,
pub own_part : (calls : ℕ) → OwnNamesIf calls (λ n. n)
own_part calls z n = refl

-- beneath a binder too,
pub own-under : (calls : ℕ) (σ : ℕ → ℕ) → OwnNamesIf calls σ → OwnNamesIf calls (lift σ)
own-under calls σ own z zero = refl
own-under calls σ own z (suc n) = ap suc (own z n)

-- and in the body of a call no call is opened.
pub own_body : (calls : ℕ) (σ : ℕ → ℕ) → calls ≤ 1 → OwnNamesIf (calls - 1) σ
own_body calls σ once z = absurd (omega arith)
