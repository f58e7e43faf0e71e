-- The places of a table by number: rows ascending, calls ascending in a row, each place as often as its call weighs.
use Rattle.std.specs.Prelude.{Option, Some, None, List, ◌≡◌, ℕ, zero, suc, ◌+◌, ◌*◌, ◌<◌, ◌≤◌, get_or}
use Rattle.steps_reach.specs.CallTable.{most_calls}
use Rattle.steps_places.specs.PlaceTable.{bit, Has}
use Rattle.steps_places.specs.declared.numbers.Offset.{Offset}
use Rattle.steps_places.specs.declared.numbers.Placed.{Placed}

-- the weight of the first calls of a row
unfoldable pub weight_below : ℕ → List ℕ → ℕ → ℕ
weight_below x w zero = 0
weight_below x w (suc j) = weight_below x w j + bit x j * get_or w j 0

-- the weight of the first rows
unfoldable pub table_weight : List ℕ → List ℕ → ℕ → ℕ
table_weight f w zero = 0
table_weight f w (suc r) = table_weight f w r + weight_below (get_or f r 0) w most_calls

pub record WeightIs (x : ℕ) (w : List ℕ) (j r : ℕ) : Type 0 where
  pub few : r < 4294967296
  pub is : r ≡ bit x j * get_or w j 0
  pub some : 0 < r → bit x j ≡ 1

pub record RowWeightIs (x : ℕ) (w : List ℕ) (j r : ℕ) : Type 0 where
  pub few : r ≤ j * 4294967296
  pub is : r ≡ weight_below x w j

pub record TableWeightIs (f w : List ℕ) (rows r : ℕ) : Type 0 where
  pub few : r ≤ rows * 274877906944
  pub is : r ≡ table_weight f w rows

-- the row of a number, if there is one
pub record RowAtIs (f w : List ℕ) (rows number : ℕ) (r : Option Offset) : Type 0 where
  pub some : (p : Offset) → r ≡ Some p
      → (number ≡ table_weight f w p.index + p.left) × (p.index < rows) × (p.left < weight_below (get_or f p.index 0) w most_calls)
  pub none : r ≡ None → table_weight f w rows ≤ number

-- the call of a number in a row, if there is one
pub record CallAtIs (x : ℕ) (w : List ℕ) (number : ℕ) (r : Option Offset) : Type 0 where
  pub some : (p : Offset) → r ≡ Some p
      → (number ≡ weight_below x w p.index + p.left) × (p.index < most_calls) × (bit x p.index ≡ 1) × (p.left < get_or w p.index 0)
  pub none : r ≡ None → weight_below x w most_calls ≤ number

-- The place of a number below the weight of the table.
unfoldable pub PlaceAtIs : List ℕ → List ℕ → ℕ → ℕ → Option Placed → Type 0
PlaceAtIs f w rows number r = number < table_weight f w rows
    → (p : Placed) × (r ≡ Some p) × (p.row < rows) × (p.call < most_calls) × Has f p.row p.call × (p.left < get_or w p.call 0)
    × (number ≡ table_weight f w p.row + (weight_below (get_or f p.row 0) w p.call + p.left))
