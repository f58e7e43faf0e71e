-- The entries of a list that is complete, brought into the order that its index says.
use Rattle.std.specs.Prelude.{cond, List, ◌≡◌, ℕ, ◌+◌, ◌*◌, ◌<◌, ◌≤◌, eqb, length, get_or, take}
use Rattle.terms.specs.Limits.{longest_term}
use Rattle.steps.specs.Derived.{Ascending}
use Rattle.steps_entries.specs.Entries.{entry_from, place_at, entry_at, step_at, Indexed}
use Rattle.steps.specs.Limits.{step_bytes}
use Rattle.steps.specs.Listed.{ListedStep}
use Rattle.steps.specs.Operations.{list_bytes}

-- where an entry stands when the one at `old` has moved to `new`
unfoldable pub relabelled : ℕ → ℕ → ℕ → ℕ
relabelled old new place = cond (eqb place old) new place

-- the same for the bytes from `from` up to `end`, and nothing before them changed
pub record RelabelIs (area : List ℕ) (from end old new : ℕ) (area' : List ℕ) : Type 0 where
  pub inside : (k : ℕ) → from ≤ k → k < end → get_or area' k 0 ≡ relabelled old new (get_or area k 0)
  pub before : (k : ℕ) → k < from → get_or area' k 0 ≡ get_or area k 0

-- The first i steps stand in their places, and the index leads to the others, which stand behind them.
pub record Settled (area : List ℕ) (i : ℕ) (ss : List ListedStep) : Type 0 where
  pub done : (k : ℕ) → k < i → entry_from area (k * step_bytes) ≡ step_at ss k
  pub among : (k : ℕ) → i ≤ k → k < length ss → (i ≤ place_at area k) × (place_at area k < length ss)
  pub entries : (k : ℕ) → i ≤ k → k < length ss → entry_at area k ≡ step_at ss k

-- one step more
unfoldable pub SettleIs : List ℕ → ℕ → ℕ → List ℕ → Type 0
SettleIs area i count area' =
    (ss : List ListedStep) → Ascending longest_term ss → length ss ≡ count → Settled area i ss → Settled area' (i + 1) ss

unfoldable pub ArrangeIs : List ℕ → ℕ → List ℕ → Type 0
ArrangeIs area count area' =
    (ss : List ListedStep) → Ascending longest_term ss → length ss ≡ count → Indexed area ss → take (count * step_bytes) area' ≡ list_bytes ss
