-- A renaming as a table of name bytes. One routine renames a term's bytes by any such table, so a caller that merges names, rewrites by a
-- condition or writes a result fills a table and shows `Represents`.
use Rattle.std.specs.Prelude.{◌≡◌, cond, List, ℕ, ◌+◌, ◌-◌, ◌<◌, get_or, ltb}
use Rattle.terms.specs.Encoding.{name_byte}
use Rattle.terms.specs.Limits.{name_count}

-- A table of names has room for those, and for one more that stands for a step's new name until it is chosen.
abbrev pub table_names : ℕ
table_names = name_count + 1

-- the greatest name that may stand free in a part
abbrev pub last_name : ℕ
last_name = name_count - 1

-- Where the table has the name m of a term under D binders: free names first, then the binders, the innermost first.
unfoldable pub slot : ℕ → ℕ → ℕ
slot D m = cond (ltb m D) (table_names + m) (m - D)

-- The table has ρ, from terms under D binders, in which `free` names may stand free, to terms under D' binders.
unfoldable pub Represents : ℕ → ℕ → ℕ → List ℕ → (ℕ → ℕ) → Type 0
Represents free D D' table ρ =
    (m : ℕ) → m < D + free → (get_or table (slot D m) 0 ≡ name_byte D' (ρ m)) × (ρ m < D' + table_names)

-- A byte of the table beneath `inner` binders more, which are those of the term itself: only a binder's byte moves. 0 where there is none.
unfoldable pub beneath : ℕ → ℕ → ℕ
beneath inner b = cond (ltb b 128) b (cond (ltb (b + inner) 256) (b + inner) 0)

-- What becomes of a name byte beneath `inner` binders of the term: the term's own binders stay, so that nothing is captured.
unfoldable pub renamed_byte : ℕ → List ℕ → ℕ → ℕ
renamed_byte inner table b =
    cond (ltb b 128) (beneath inner (get_or table b 0))
    (cond (ltb (b - 128) inner) b (beneath inner (get_or table (table_names + (b - 128 - inner)) 0)))

-- The same of a subterm, beneath `inner` binders of the term: d and d' count these too.
unfoldable pub RepresentsBeneath : ℕ → ℕ → ℕ → ℕ → List ℕ → (ℕ → ℕ) → Type 0
RepresentsBeneath inner free d d' table ρ =
    (m : ℕ) → m < d + free → (renamed_byte inner table (name_byte d m) ≡ name_byte d' (ρ m)) × (ρ m < d' + table_names)
