-- The weights of rows and of the table, and the place of a number. Assumes nothing.
use mathlib.Core.List.{List}
use mathlib.Core.Path.{◌≡◌, refl, sym, ap, subst, ◌∙◌}
use native.Mathlib.Nat.{one-mul, zero-mul}
use native.Mathlib.Omega.{arith}
use Prim.Native.Nat.{ℕ, suc, ◌+◌, ◌-◌, ◌*◌, ◌<◌, ◌≤◌}
use lib.ListN.{length, get_or, get_or-eq_default}
use Rattle.std.specs.Prelude.{Option, Some, None}
use Rattle.steps_reach.specs.CallTable.{most_calls}
use Rattle.steps_places.specs.PlaceTable.{bit}
use Rattle.steps_places.specs.PlaceNumbers.{weight_below, table_weight, WeightIs, RowWeightIs, TableWeightIs, RowAtIs, CallAtIs, PlaceAtIs}
use Rattle.steps_places.specs.declared.numbers.Offset.{Offset}
use Rattle.steps_places.specs.declared.numbers.Placed.{Placed}
use Rattle.steps_places.proofs.BitLaws.{bit_small}

offset_none : {p : Offset} → ◌≡◌ {A = Option Offset} (Some p) None → ⊥
offset_none e = let z : ◌≡◌ {A = ℕ} 0 1 = cc in omega arith

offset_is : {p q : Offset} → ◌≡◌ {A = Option Offset} (Some p) (Some q) → p ≡ q
offset_is e = cc

at_most : {a b : ℕ} → a ≤ b → b ≤ a → b ≡ a
at_most h k = omega arith

module _ (x : ℕ) (w : List ℕ) (j : ℕ) where
  pub weight_none : ¬ (bit x j ≡ 1) → WeightIs x w j 0
  weight_none h =
      let z : bit x j ≡ 0 = omega (arith, bit_small x j, h) in
      record { few = omega arith; is = sym (ap (λ b. b * get_or w j 0) z ∙ zero-mul (get_or w j 0)); some = λ l. absurd (omega arith) }

  pub weight_past : length w ≤ j → WeightIs x w j 0
  weight_past l = record {
    few = omega arith;
    is = sym (ap (λ y. bit x j * y) (get_or-eq_default w 0 l) ∙ omega arith);
    some = λ l. absurd (omega arith);
  }

  pub weight_there : bit x j ≡ 1 → get_or w j 0 < 4294967296 → WeightIs x w j (get_or w j 0)
  weight_there h l = record { few = l; is = sym (ap (λ b. b * get_or w j 0) h ∙ one-mul (get_or w j 0)); some = λ k. h }

module _ (x : ℕ) (w : List ℕ) where
  below_next : (j : ℕ) → weight_below x w (j + 1) ≡ weight_below x w j + bit x j * get_or w j 0
  unfolding weight_below
  below_next j = let e : j + 1 ≡ suc j = omega arith in ap (weight_below x w) e

  pub row-start : RowWeightIs x w 0 0
  unfolding weight_below
  row-start = record { few = omega arith; is = refl }

  pub row_more : (j s a : ℕ) → WeightIs x w j a → RowWeightIs x w j s → RowWeightIs x w (j + 1) (s + a)
  row_more j s a A R = record { few = omega (arith, A.few, R.few); is = omega (arith, A.is, R.is, below_next j) }

  -- the number left before call j
  pub record Left (number j left : ℕ) : Type 0 where
    pub sum : number ≡ weight_below x w j + left

  pub left-start : (number : ℕ) → Left number 0 number
  unfolding weight_below
  left-start number = record { sum = omega arith }

  pub left-more : (number j left a : ℕ) → WeightIs x w j a → a ≤ left → Left number j left → Left number (j + 1) (left - a)
  left-more number j left a A l L = record { sum = omega (arith, A.is, L.sum, below_next j) }

  pub call_there : (number j left a : ℕ) → j < most_calls → WeightIs x w j a → left < a → Left number j left → CallAtIs x w number (Some (record { index = j; left = left }))
  call_there number j left a h A l L =
      let b = A.some (omega arith) in
      let e = A.is ∙ ap (λ y. y * get_or w j 0) b ∙ one-mul (get_or w j 0) in
      record {
        some = λ p q. subst (λ (p : Offset). (number ≡ weight_below x w p.index + p.left) × (p.index < most_calls) × (bit x p.index ≡ 1) × (p.left < get_or w p.index 0))
            (offset_is q) (L.sum, h, b, omega (arith, e, l));
        none = λ q. absurd (offset_none q);
      }

  pub call_none : (number j left : ℕ) → most_calls ≤ j → j ≤ most_calls → Left number j left → CallAtIs x w number None
  call_none number j left h k L = record {
    some = λ p q. absurd (offset_none (sym q));
    none = λ q. omega (arith, L.sum, ap (weight_below x w) (at_most h k));
  }

module _ (f w : List ℕ) where
  table_next : (r : ℕ) → table_weight f w (r + 1) ≡ table_weight f w r + weight_below (get_or f r 0) w most_calls
  unfolding table_weight
  table_next r = let e : r + 1 ≡ suc r = omega arith in ap (table_weight f w) e

  pub table_start : TableWeightIs f w 0 0
  unfolding table_weight
  table_start = record { few = omega arith; is = refl }

  pub table_more : (r s a : ℕ) → RowWeightIs (get_or f r 0) w most_calls a → TableWeightIs f w r s → TableWeightIs f w (r + 1) (s + a)
  table_more r s a A R = record { few = omega (arith, A.few, R.few); is = omega (arith, A.is, R.is, table_next r) }

  -- the number left before row r
  pub record RowsLeft (number r left : ℕ) : Type 0 where
    pub sum : number ≡ table_weight f w r + left

  pub rows_start : (number : ℕ) → RowsLeft number 0 number
  unfolding table_weight
  rows_start number = record { sum = omega arith }

  pub rows_more : (number r left a : ℕ) → RowWeightIs (get_or f r 0) w most_calls a → a ≤ left → RowsLeft number r left → RowsLeft number (r + 1) (left - a)
  rows_more number r left a A l L = record { sum = omega (arith, A.is, L.sum, table_next r) }

  module _ (rows number : ℕ) where
    pub row_there : (r left a : ℕ) → r < rows → RowWeightIs (get_or f r 0) w most_calls a → left < a → RowsLeft number r left
        → RowAtIs f w rows number (Some (record { index = r; left = left }))
    row_there r left a h A l L = record {
      some = λ p q. subst (λ (p : Offset). (number ≡ table_weight f w p.index + p.left) × (p.index < rows) × (p.left < weight_below (get_or f p.index 0) w most_calls))
          (offset_is q) (L.sum, h, omega (arith, A.is, l));
      none = λ q. absurd (offset_none q);
    }

    pub row-none : (r left : ℕ) → rows ≤ r → r ≤ rows → RowsLeft number r left → RowAtIs f w rows number None
    row-none r left h k L = record {
      some = λ p q. absurd (offset_none (sym q));
      none = λ q. omega (arith, L.sum, ap (table_weight f w) (at_most h k));
    }

    pub place_none : (p : Option Offset) → RowAtIs f w rows number p → p ≡ None → (r : Option Placed) → PlaceAtIs f w rows number r
    unfolding PlaceAtIs
    place_none p R e r h = absurd (omega (arith, R.none e))

    module _ (o : Option Offset) (R : RowAtIs f w rows number o) (p : Offset) (e : o ≡ Some p) (d : Option Offset) (C : CallAtIs (get_or f p.index 0) w p.left d) where
      -- a row has the number that is left for it
      pub place_past : d ≡ None → (r : Option Placed) → PlaceAtIs f w rows number r
      unfolding PlaceAtIs
      place_past q r h = let a = R.some p e in absurd (omega (arith, a.2, C.none q))

      pub place_there : (c : Offset) → d ≡ Some c → PlaceAtIs f w rows number (Some (record { row = p.index; call = c.index; left = c.left }))
      unfolding PlaceAtIs
      place_there c q h =
          let a = R.some p e in
          let b = C.some c q in
          (record { row = p.index; call = c.index; left = c.left }, refl, a.1, b.1, b.2, b.3, a.0 ∙ ap (λ y. table_weight f w p.index + y) b.0)
