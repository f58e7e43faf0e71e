-- What a run of stores leaves and what it writes, and bytes moved up by a run from the last to the first, in a part that was lent. Assumes nothing.
use borrow.Rule.Slice.PartMut.{mid_of, post_of, put_mid, Post-is}
use mathlib.Core.Path.{◌≡◌, refl, sym, ◌∙◌, ap, ap₂}
use mathlib.Core.List.{List, [], ◌∷◌, ◌++◌, append-nil}
use native.Mathlib.Omega.{arith}
use Prim.Native.Nat.{ℕ, zero, suc, ◌+◌, ◌-◌, ◌<◌, ◌≤◌}
use lib.ListN.{length, get_or, set, take, drop, length-set, length-drop, drop_of_length-le}
use lib.Seq.{sets, length-sets, set_comm, drop-cons, take_all}
use Rattle.terms_bytes.proofs.Stores.{span}
pub use Rattle.terms_bytes.proofs.Stores.{get_d_before, get_d_behind, get_d_stored}

-- a store before a run
pub set_before : (l : List ℕ) (p q v : ℕ) (xs : List ℕ) → p < q → set (sets l q xs) p v ≡ sets (set l p v) q xs
set_before l p q v [] h = refl
set_before l p q v (x ∷ xs) h =
    set_before (set l q x) p (suc q) v xs (omega arith)
    ∙ ap (λ m. sets m (suc q) xs) (set_comm l q p x v (λ e. omega arith))

span-cons : (l : List ℕ) (j n : ℕ) → j < length l → span l j (suc n) ≡ get_or l j 0 ∷ span l (suc j) n
span-cons l j n h = rw (drop-cons l j 0 h) refl

-- the bytes from i up to `end`, each moved by n, with one more before them
pub moved_more : (l : List ℕ) (n i end : ℕ) → 0 < i → i ≤ end → end ≤ length l → (l' : List ℕ) → l' ≡ sets l (i + n) (span l i (end - i))
    → set l' (i - 1 + n) (get_or l' (i - 1) 0) ≡ sets l (i - 1 + n) (span l (i - 1) (end - (i - 1)))
moved_more l n zero end h k m l' e = absurd (omega arith)
moved_more l n (suc j) end h k m l' e =
    let p : suc j - 1 ≡ j = omega arith in
    let q : suc j + n ≡ suc (j + n) = omega arith in
    let w : end - j ≡ suc (end - suc j) = omega arith in
    let run : List ℕ = span l (suc j) (end - suc j) in
    let f : l' ≡ sets l (suc (j + n)) run = e ∙ ap (λ z. sets l z run) q in
    let g : get_or l' j 0 ≡ get_or l j 0 = ap (λ z. get_or z j 0) f ∙ get_d_before l j (suc (j + n)) run (omega arith) in
    let s : set l' (j + n) (get_or l' j 0) ≡ sets (set l (j + n) (get_or l j 0)) (suc (j + n)) run =
    ap₂ (λ z v. set z (j + n) v) f g ∙ set_before l (j + n) (suc (j + n)) (get_or l j 0) run (omega arith) in
    let t : span l j (end - j) ≡ get_or l j 0 ∷ run = ap (span l j) w ∙ span-cons l j (end - suc j) (omega arith) in
    rw p (s ∙ ap (sets l (j + n)) (sym t))

-- where the run begins and ends
pub moved_none : (l : List ℕ) (n end : ℕ) → l ≡ sets l (end + n) (span l end (end - end))
moved_none l n end =
    let e : end - end ≡ 0 = omega arith in
    rw e refl

pub moved_all : (l : List ℕ) (n i end : ℕ) → i ≤ 0 → (l' : List ℕ) → l' ≡ sets l (i + n) (span l i (end - i)) → l' ≡ sets l n (take end l)
moved_all l n i end h l' e =
    let q : i ≡ 0 = omega arith in
    let z : 0 + n ≡ n = omega arith in
    let w : end - 0 ≡ end = omega arith in
    e ∙ ap (λ j. sets l (j + n) (span l j (end - j))) q ∙ ap₂ (λ p k. sets l p (take k l)) z w

-- a run in the part of a list from p on
sets-cons : (x : ℕ) (l : List ℕ) (q : ℕ) (xs : List ℕ) → sets (x ∷ l) (suc q) xs ≡ x ∷ sets l q xs
sets-cons x l q [] = refl
sets-cons x l q (y ∷ ys) = sets-cons x (set l q y) (suc q) ys

sets_part : (l : List ℕ) (p q : ℕ) (xs : List ℕ) → p ≤ length l → take p l ++ sets (drop p l) q xs ≡ sets l (p + q) xs
sets_part l zero q xs h = let e : 0 + q ≡ q = omega arith in rw e refl
sets_part [] (suc p) q xs h = absurd (omega arith)
sets_part (x ∷ l) (suc p) q xs h =
    let e : suc p + q ≡ suc (p + q) = omega arith in
    rw e (ap (λ r. x ∷ r) (sets_part l p q xs (omega arith)) ∙ sym (sets-cons x l (p + q) xs))

-- The bytes moved up in the part from p on that was lent: the same in the whole, and a store there leaves the length.
module _ (l : List ℕ) (p n m : ℕ) (h : p ≤ length l) (part : List ℕ)
    (e : part ≡ sets (mid_of p (length l - p) l) n (take m (mid_of p (length l - p) l))) where
  pub moved_part : put_mid p (length l - p) l part ≡ sets l (p + n) (take m (drop p l))
  moved_part =
      let w : mid_of p (length l - p) l ≡ drop p l = take_all (length l - p) (drop p l) (omega (arith, length-drop p l)) in
      let all : length l ≤ length l = omega arith in
      let z : post_of p (length l - p) l ≡ [] = Post-is p (length l) l h ∙ drop_of_length-le l all in
      let q : part ≡ sets (drop p l) n (take m (drop p l)) = e ∙ ap (λ d. sets d n (take m d)) w in
      ap₂ (λ y r. take p l ++ (y ++ r)) q z
      ∙ ap (λ y. take p l ++ y) (append-nil (sets (drop p l) n (take m (drop p l))))
      ∙ sets_part l p n (take m (drop p l)) h

  pub length_moved : (i v : ℕ) → length (set (put_mid p (length l - p) l part) i v) ≡ length l
  length_moved i v =
      length-set (put_mid p (length l - p) l part) i v ∙ ap length moved_part ∙ length-sets l (p + n) (take m (drop p l))
