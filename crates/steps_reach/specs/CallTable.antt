-- The table of calls: nine bytes for each, its definition and its names, of which a definition has at most eight.
use Rattle.std.specs.Prelude.{◌≡◌, Bool, true, false, cond, List, [], ◌∷◌, ℕ, ◌+◌, ◌-◌, ◌*◌, ◌<◌, ltb, leb, length, get_or}
use Rattle.calls.specs.ReachLimit.{Call}

-- the limit of request 2026-01
abbrev pub most_calls : ℕ
most_calls = 64

abbrev pub table_bytes : ℕ
table_bytes = 576

-- row i has this call
pub record RowIs (t : List ℕ) (i : ℕ) (c : Call) : Type 0 where
  pub definition : get_or t (9 * i) 0 ≡ c.0
  pub names : (j : ℕ) → j < length c.1 → get_or t (9 * i + 1 + j) 0 ≡ get_or c.1 j 0

-- the first rows have these calls, the last one put in first
abbrev pub TableIs : List ℕ → List Call → Type 0
TableIs t [] = Unit
TableIs t (c ∷ cs) = RowIs t (length cs) c × TableIs t cs

-- What a name byte in the body of the call in a row stands for: 80 for the last of its names. A body has no free names (check 9).
unfoldable pub name_in : List ℕ → ℕ → ℕ → ℕ → ℕ
name_in t row arity b = cond (ltb b 128) 0 (cond (leb arity (b - 128)) 0 (get_or t (9 * row + (arity - (b - 128))) 0))

unfoldable pub NamesIs : List ℕ → ℕ → ℕ → List ℕ → ℕ → ℕ → List ℕ → Type 0
NamesIs s at count t row arity r = (j : ℕ) → j < count → get_or r j 0 ≡ name_in t row arity (get_or s (at + j) 0)

-- row i has these names
unfoldable pub Named : List ℕ → ℕ → List ℕ → ℕ → Type 0
Named t i names count = (j : ℕ) → j < count → get_or t (9 * i + 1 + j) 0 ≡ get_or names j 0

pub record SameNamesIs (t : List ℕ) (i : ℕ) (names : List ℕ) (count : ℕ) (r : Bool) : Type 0 where
  pub named : r ≡ true → Named t i names count
  pub other : r ≡ false → ¬ Named t i names count

-- this call is in row i
abbrev pub Held : List ℕ → ℕ → ℕ → List ℕ → ℕ → Type 0
Held t i k names count = (get_or t (9 * i) 0 ≡ k) × Named t i names count

pub record HeldIs (t : List ℕ) (i k : ℕ) (names : List ℕ) (count : ℕ) (r : Bool) : Type 0 where
  pub held : r ≡ true → Held t i k names count
  pub other : r ≡ false → ¬ Held t i k names count

pub record ListedIs (t : List ℕ) (size k : ℕ) (names : List ℕ) (count : ℕ) (r : Bool) : Type 0 where
  pub held : r ≡ true → (i : ℕ) × (i < size) × Held t i k names count
  pub absent : r ≡ false → (i : ℕ) → i < size → ¬ Held t i k names count
