-- Two terms that stand in the same bytes and are one once their names are read: what the walk of both at once promises.
use Rattle.std.specs.Prelude.{◌≡◌, Bool, true, List, [], ◌∷◌, ◌++◌, ℕ, zero, suc, ◌+◌, ◌*◌, ◌<◌, ◌≤◌, max, length, get_or, drop, Option, Some, None}
use Rattle.calculus.specs.Cond.{Cond, ◌▷◌}
use Rattle.calculus.specs.Term.{Term, ren}
use Rattle.terms.specs.Encoding.{encode, InScope}
use Rattle.terms.specs.Limits.{name_count}
use Rattle.steps_labels.specs.LabelWalk.{slot_at, HasSlots}
use Rattle.calculus.specs.Lists.{◌∈◌}
use Rattle.steps.specs.Raw.{Candidate, visible}
use Rattle.steps_conditions.specs.Slots.{HasSlotClasses}
use Rattle.steps_placing.specs.Deciding.{decided}
use Rattle.steps_entries.specs.Entries.{Alike}

-- The n name bytes at p and those at `at` stand for the same names, by their slots.
abbrev pub SameNames : (s args : List ℕ) (inner depth p at n : ℕ) → Type 0
SameNames s args inner depth p at n = (j : ℕ) → j < n → slot_at args inner depth (get_or s (p + j) 0) ≡ slot_at args inner depth (get_or s (at + j) 0)

-- The fronts at p and at `at`: bytes that no renaming changes, and names.
pub record SameFront (s args : List ℕ) (inner depth p at fixed names : ℕ) : Type 0 where
  pub inside : at + (fixed + names) ≤ length s
  pub bytes : Alike s p s at fixed
  pub names_are : SameNames s args inner depth (p + fixed) (at + fixed) names

-- Two terms in scope, P at `at` and B at p, whose names σ takes to names in these slots.
pub record Both (s : List ℕ) (p at : ℕ) (arities args : List ℕ) (inner depth free D : ℕ) (σ : ℕ → ℕ) (P B : Term) : Type 0 where
  pub few : free ≤ name_count
  pub has : HasSlots free D args inner depth σ
  pub scope : InScope free arities D P
  pub scope_too : InScope free arities D B
  pub rest : List ℕ
  pub stands : drop at s ≡ encode D P ++ rest
  pub more : List ℕ
  pub stands_too : drop p s ≡ encode D B ++ more

-- The length that an answer says; where it says none, 0, which no term has.
abbrev pub length_or_none : Option ℕ → ℕ
length_or_none (Some n) = n
length_or_none None = 0

abbrev pub Positive : Option ℕ → Type 0
Positive (Some n) = 0 < n
Positive None = Unit {0}

-- The length of the term at `at`, if the one at p is the same; 0 says nothing.
pub record SameIs (s : List ℕ) (p at : ℕ) (arities args : List ℕ) (inner depth r : ℕ) : Type 0 where
  pub inside : at + r ≤ max at (length s)
  pub first : 0 < r → get_or s p 0 ≡ get_or s at 0
  pub is : 0 < r → (free D : ℕ) (σ : ℕ → ℕ) (P B : Term) → Both s p at arities args inner depth free D σ P B
      → (r ≡ length (encode D P)) × (ren σ P ≡ ren σ B)

-- From `at` on stand n matches, one beneath the other.
pub record ChainIs (s : List ℕ) (at n : ℕ) : Type 0 where
  pub inside : at + 3 * n ≤ max at (length s + 2)
  pub matches : (j : ℕ) → j < n → get_or s (at + 3 * j) 0 ≡ 5

-- Their condition, over the slots of their names, the last match first.
unfoldable pub chain : (s args : List ℕ) (inner depth at n : ℕ) → Cond
chain s args inner depth at zero = []
chain s args inner depth at (suc n) =
    (slot_at args inner depth (get_or s (at + 3 * n + 1) 0), slot_at args inner depth (get_or s (at + 3 * n + 2) 0)) ∷ chain s args inner depth at n

-- each condition implies the other
abbrev pub Equivalent : Cond → Cond → Type 0
Equivalent M N = (M ▷ N) × (N ▷ M)

-- The condition that the array has implies them.
unfoldable pub HoldsIs : (classes s args : List ℕ) (inner depth at n : ℕ) → Type 0
HoldsIs classes s args inner depth at n = (M : Cond) → HasSlotClasses classes M → M ▷ chain s args inner depth at n

-- Each visible candidate of the term at `at` is one of the term at p but for what is decided.
pub record SameBranchIs (s : List ℕ) (p at : ℕ) (arities args : List ℕ) (inner depth : ℕ) (r : Bool) : Type 0 where
  pub is : r ≡ true → (body : ℕ → Term) (calls free D : ℕ) (σ : ℕ → ℕ) (P B : Term) → Both s p at arities args inner depth free D σ P B
      → (c : Candidate) → c ∈ visible body calls (ren σ P) → (b : Candidate) × (b ∈ visible body calls (ren σ B)) × (decided depth c ≡ decided depth b)
