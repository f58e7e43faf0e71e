-- Where a condition array has a name: the free name n in slot n, the restriction at level l, counted from outside, in slot names + l. So
-- nothing moves when a restriction is left.
use Rattle.std.specs.Prelude.{◌≡◌, cond, List, [], ◌∷◌, ℕ, ◌+◌, ◌-◌, ◌<◌, get_or, ltb}
use Rattle.calculus.specs.Cond.{Cond, map_p, cls}
use Rattle.terms.specs.Limits.{name_count}

-- the slot of the name n under d restrictions
unfoldable pub slot_of : ℕ → ℕ → ℕ → ℕ
slot_of names d n = cond (ltb n d) (names + (d - 1 - n)) (n - d)

-- The slot of the name that an action receives or extrudes, behind those of the free names. The object is looked up outside every restriction,
-- where no other name has this slot.
abbrev pub new_slot : ℕ
new_slot = name_count

-- As many as a byte can number: a part has fewer restrictions than its 112 bytes, and so has the body of a call in it.
abbrev pub slot_count : ℕ
slot_count = 256

-- The array has the classes of a condition on slots, each written by its smallest slot.
unfoldable pub HasSlotClasses : List ℕ → Cond → Type 0
HasSlotClasses classes M = (s : ℕ) → s < slot_count → get_or classes s 0 ≡ cls M s

-- The same of a condition on names under d restrictions: with no restriction around, each class is written by its smallest name.
unfoldable pub HasClasses : List ℕ → ℕ → Cond → Type 0
HasClasses classes d M = (s : ℕ) → s < slot_count → get_or classes s 0 ≡ cls (map_p (slot_of name_count d) M) s

-- every name that M matches is below n
unfoldable pub Below : ℕ → Cond → Type 0
Below n [] = Unit {0}
Below n (p ∷ M) = (p.0 < n) × (p.1 < n) × Below n M
