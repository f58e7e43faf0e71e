-- The numbers of pairs, for any number of names: the pair of a number is found by counting off rows, and its number is that of its row and its place
-- there. Nothing is computed over the pairs. Assumes nothing.
use mathlib.Core.Path.{◌≡◌, refl, sym, ◌∙◌, ap, ap₂}
use mathlib.Core.List.{List, [], ◌∷◌, ◌++◌, map}
use native.Mathlib.Decide.{dec_lt}
use native.Mathlib.Omega.{arith}
use Prim.Native.Nat.{ℕ, zero, suc, ◌+◌, ◌-◌, ◌<◌, ◌≤◌}
use lib.ListN.{length, get_or, length-append, length-map}
use lib.Seq.{get_or-append-add}
use Rattle.calculus.specs.Cond.{Pairs}
use Rattle.steps.specs.Listed.{names_from}
use Rattle.field.specs.Situation.{pairs_of, all_pairs}
use Rattle.field_pairs.specs.PairNumbers.{pair_at, row_start, pairs_among, number_of}

pub names_at : (n k i d : ℕ) → i < k → get_or (names_from n k) i d ≡ n + i
unfolding names_from
names_at n zero i d h = absurd (omega arith)
names_at n (suc k) zero d h = omega arith
names_at n (suc k) (suc i) d h = names_at (suc n) k i d (omega arith) ∙ omega arith

pub length-names : (n k : ℕ) → length (names_from n k) ≡ k
unfolding names_from
length-names n zero = refl
length-names n (suc k) = ap suc (length-names (suc n) k)

-- The next row begins behind the pairs of this one.
pub row_next : (a names : ℕ) → row_start names (suc a) ≡ row_start names a + (names - 1 - a)
unfolding row_start
row_next zero names = omega arith
row_next (suc a) names = omega (arith, row_next a (names - 1))

-- rows begin one behind the other
row_grows : (a n names : ℕ) → row_start names a ≤ row_start names (a + n)
row_grows a zero names = let e : a + 0 ≡ a = omega arith in rw e (omega arith)
row_grows a (suc n) names =
    let e : a + suc n ≡ suc (a + n) = omega arith in
    rw e (omega (arith, row_grows a n names, row_next (a + n) names))

module _ {A : Type 0} where
  front_at : (xs ys : List A) (i : ℕ) (d : A) → i < length xs → get_or (xs ++ ys) i d ≡ get_or xs i d
  front_at [] ys i d h = absurd (omega arith)
  front_at (x ∷ xs) ys zero d h = refl
  front_at (x ∷ xs) ys (suc i) d h = front_at xs ys i d (omega arith)

  pub mapped-name : (f : ℕ → A) (xs : List ℕ) (i d : ℕ) (e : A) → i < length xs → get_or (map f xs) i e ≡ f (get_or xs i d)
  mapped-name f [] i d e h = absurd (omega arith)
  mapped-name f (x ∷ xs) zero d e h = refl
  mapped-name f (x ∷ xs) (suc i) d e h = mapped-name f xs i d e (omega arith)

-- The pair of the names n + a and n + a + 1 + left, of k names from n on.
pairs_at : (a n k left : ℕ) → a + 1 + left < k → get_or (pairs_of (names_from n k)) (row_start k a + left) (0, 0) ≡ (n + a, n + a + 1 + left)
unfolding pairs_of names_from row_start
pairs_at a n zero left h = absurd (omega arith)
pairs_at zero n (suc k) left h =
    let xs : List ℕ = names_from (suc n) k in
    let row : Pairs = map (λ b. (n, b)) xs in
    let m : length row ≡ k = length-map xs (λ b. (n, b)) ∙ length-names (suc n) k in
    let z : 0 + left ≡ left = omega arith in
    ap (λ i. get_or (row ++ pairs_of xs) i (0, 0)) z
    ∙ front_at row (pairs_of xs) left (0, 0) (omega (arith, m))
    ∙ mapped-name (λ b. (n, b)) xs left 0 (0, 0) (omega (arith, length-names (suc n) k))
    ∙ ap₂ (λ x y. (x, y)) (omega arith) (names_at (suc n) k left 0 (omega arith) ∙ omega arith)
pairs_at (suc a) n (suc k) left h =
    let xs : List ℕ = names_from (suc n) k in
    let row : Pairs = map (λ b. (n, b)) xs in
    let m : length row ≡ k = length-map xs (λ b. (n, b)) ∙ length-names (suc n) k in
    let p : suc k - 1 ≡ k = omega arith in
    let g : k + row_start k a + left ≡ length row + (row_start k a + left) = omega (arith, m) in
    let e : suc k - 1 + row_start (suc k - 1) a + left ≡ length row + (row_start k a + left) = ap (λ j. j + row_start j a + left) p ∙ g in
    ap (λ i. get_or (row ++ pairs_of xs) i (0, 0)) e
    ∙ get_or-append-add row (pairs_of xs) (row_start k a + left) (0, 0)
    ∙ pairs_at a (suc n) k left (omega arith)
    ∙ ap₂ (λ x y. (x, y)) (omega arith) (omega arith)

-- The pair of a pair's number is that pair.
pub number_pair : (names a b : ℕ) → a < b → b < names → pair_at names (number_of names a b) ≡ (a, b)
unfolding pair_at all_pairs number_of
number_pair names a b l h = pairs_at a 0 names (b - a - 1) (omega arith) ∙ ap₂ (λ x y. (x, y)) (omega arith) (omega arith)

-- the last name is the smaller one of no pair
last_row : (names : ℕ) → pairs_among names ≡ row_start names (names - 1)
unfolding pairs_among row_start
last_row zero = refl
last_row (suc n) =
    let p : suc n - 1 ≡ n = omega arith in
    row_next n (suc n) ∙ rw p (omega arith)

pub number-below : (names a b : ℕ) → a < b → b < names → number_of names a b < pairs_among names
unfolding number_of
number-below names a b l h =
    let e : suc a + (names - 1 - suc a) ≡ names - 1 = omega arith in
    omega (arith, row_next a names, last_row names, rw e at (row_grows (suc a) (names - 1 - suc a) names))

-- Counting off rows, as the code does: pair k stands `left` places behind the start of row a.
pub record InRow (names k a left : ℕ) : Type 0 where
  pub inside : a < names - 1
  pub here : k ≡ row_start names a + left

-- The row and the place there of pair k.
record Placed (names k : ℕ) : Type 0 where
  row : ℕ
  place : ℕ
  counted : InRow names k row place
  within : place < names - 1 - row

numbered : (names k a left : ℕ) → k ≡ row_start names a + left → number_of names a (a + 1 + left) ≡ k
unfolding number_of
numbered names k a left e = omega (arith, e)

module _ (names k : ℕ) (h : k < pairs_among names) where
  pub row_first : InRow names k 0 k
  unfolding pairs_among row_start
  row_first = go names h
    where
      go : (names : ℕ) → k < row_start names names → InRow names k 0 k
      go zero h = absurd (omega arith)
      go (suc zero) h = absurd (omega arith)
      go (suc (suc n)) h = record { inside = omega arith; here = omega arith }

  pub row_on : (a left : ℕ) → InRow names k a left → names - 1 - a ≤ left → InRow names k (a + 1) (left - (names - 1 - a))
  row_on a left r l =
      let s : a + 1 ≡ suc a = omega arith in
      let i = r.inside in
      let e : k ≡ row_start names (a + 1) + (left - (names - 1 - a)) = rw s (omega (arith, r.here, row_next a names)) in
      let last : a + 1 ≡ names - 1 → ⊥ = λ d. let g = rw (d, ← last_row names) at e in omega arith in
      record { inside = omega arith; here = e }

  pub row_pair : (a left : ℕ) → InRow names k a left → left < names - 1 - a → pair_at names k ≡ (a, a + 1 + left)
  row_pair a left r l =
      let n = number_pair names a (a + 1 + left) (omega arith) (omega arith) in
      rw (numbered names k a left r.here) at n

  placed : Placed names k
  placed = go k 0 k (omega arith) row_first
    where
      go : (n a left : ℕ) → left ≤ n → InRow names k a left → Placed names k
      go zero a left l r = record { row = a; place = left; counted = r; within = omega (arith, r.inside) }
      go (suc n) a left l r = test (dec_lt left (names - 1 - a)) (λ m. go n (a + 1) (left - (names - 1 - a)) (omega (arith, r.inside)) (row_on a left r m))
        where
          test : Dec (left < names - 1 - a) → (names - 1 - a ≤ left → Placed names k) → Placed names k
          test (yes m) on = record { row = a; place = left; counted = r; within = m }
          test (no m) on = on (omega arith)

  pub numbered_ordered : (pair_at names k).0 < (pair_at names k).1
  numbered_ordered = let record { row = a; place = left; counted = r; within = l } = placed in rw (row_pair a left r l) (omega arith)

  pub numbered_below : (pair_at names k).1 < names
  numbered_below = let record { row = a; place = left; counted = r; within = l } = placed in rw (row_pair a left r l) (omega arith)

  pub pair_number : number_of names (pair_at names k).0 (pair_at names k).1 ≡ k
  pair_number =
      let record { row = a; place = left; counted = r; within = l } = placed in
      rw (row_pair a left r l) (numbered names k a left r.here)

-- No pair stands twice.
pub numbered_once : (names j k : ℕ) → j < pairs_among names → k < pairs_among names → (pair_at names j).0 ≡ (pair_at names k).0
    → (pair_at names j).1 ≡ (pair_at names k).1 → j ≡ k
numbered_once names j k l m p q = sym (pair_number names j l) ∙ ap₂ (number_of names) p q ∙ pair_number names k m

pairs-length : (k n : ℕ) → length (pairs_of (names_from n k)) ≡ row_start k k
unfolding pairs_of names_from row_start
pairs-length zero n = refl
pairs-length (suc k) n =
    let xs : List ℕ = names_from (suc n) k in
    let row : Pairs = map (λ b. (n, b)) xs in
    let m : length row ≡ k = length-map xs (λ b. (n, b)) ∙ length-names (suc n) k in
    let p : suc k - 1 ≡ k = omega arith in
    let g : length (row ++ pairs_of xs) ≡ k + row_start k k = omega (arith, length-append row (pairs_of xs), m, pairs-length k (suc n)) in
    g ∙ sym (ap (λ j. j + row_start j k) p)

pub pairs-counted : (names : ℕ) → length (all_pairs names) ≡ pairs_among names
unfolding all_pairs pairs_among
pairs-counted names = pairs-length names 0

-- the starts of rows in a table
pub row_table : (names a d : ℕ) → a < names → get_or (map (row_start names) (names_from 0 names)) a d ≡ row_start names a
row_table names a d h =
    mapped-name (row_start names) (names_from 0 names) a 0 d (omega (arith, length-names 0 names))
    ∙ ap (row_start names) (names_at 0 names a 0 h ∙ omega arith)
