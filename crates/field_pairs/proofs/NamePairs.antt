-- The numbering of pairs at the number of names that a part may have. Assumes nothing.
use mathlib.Core.Path.{◌≡◌, refl, sym, ap, ◌∙◌}
use Prim.Native.Nat.{ℕ, ◌+◌, ◌-◌, ◌<◌}
use native.Mathlib.Omega.{arith}
use lib.ListN.{length}
use Rattle.terms.specs.Limits.{name_count}
use Rattle.field.specs.Situation.{all_pairs}
use Rattle.field_pairs.specs.PairNumbers.{pair_at, row_start, pairs_among, number_of}
use Rattle.field_pairs.specs.PairFlags.{pair_count, PairOfIs, NumberIs}
use Rattle.field_pairs.proofs.PairNumbering.{
  number_pair,
  number-below,
  InRow,
  row_pair,
  numbered_ordered,
  numbered_below,
  numbered_once,
  pairs-counted,
}

count : pairs_among name_count ≡ pair_count
unfolding pairs_among row_start
count = refl

pub counted : (k : ℕ) → k < pair_count → k < pairs_among name_count
counted k h = omega (arith, count)

pub length_pairs : length (all_pairs name_count) ≡ pair_count
length_pairs = pairs-counted name_count ∙ count

pub number_right : (a b : ℕ) → a < b → b < name_count → NumberIs a b (number_of name_count a b)
number_right a b l h = record {
  below = omega (arith, number-below name_count a b l h, count);
  first = ap (λ p. p.0) (number_pair name_count a b l h);
  second = ap (λ p. p.1) (number_pair name_count a b l h);
}

-- the same where the start of the row was looked up
pub number_from_row : (a b row : ℕ) → a < b → b < name_count → row ≡ row_start name_count a → NumberIs a b (row + (b - a - 1))
unfolding number_of
number_from_row a b row l h e = rw e (number_right a b l h)

module _ (k : ℕ) (h : k < pair_count) where
  pub pair_ordered : (pair_at name_count k).0 < (pair_at name_count k).1
  pair_ordered = numbered_ordered name_count k (counted k h)

  pub pair_below : (pair_at name_count k).1 < name_count
  pair_below = numbered_below name_count k (counted k h)

  pub pair_right : (a left : ℕ) → InRow name_count k a left → left < name_count - 1 - a → PairOfIs k (record { first = a; second = a + 1 + left })
  pair_right a left r l =
      let e = row_pair name_count k (counted k h) a left r l in
      let i = r.inside in
      record {
        first = record { is = sym (ap (λ p. p.0) e); below = omega arith };
        second = record { is = sym (ap (λ p. p.1) e); below = omega arith };
      }

-- no pair stands twice
pub pair_once : (j k : ℕ) → j < pair_count → k < pair_count → (pair_at name_count j).0 ≡ (pair_at name_count k).0
    → (pair_at name_count j).1 ≡ (pair_at name_count k).1 → j ≡ k
pair_once j k l m = numbered_once name_count j k (counted j l) (counted k m)
