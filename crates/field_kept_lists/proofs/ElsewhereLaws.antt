-- What a change of some bytes of an area leaves as it was. Assumes nothing.
use mathlib.Core.List.{List, [], ◌∷◌, ◌++◌, append_assoc}
use mathlib.Core.Path.{◌≡◌, sym, ◌∙◌, ap}
use native.Mathlib.Nat.{zero-add, suc-add}
use native.Mathlib.Omega.{arith}
use Prim.Native.Nat.{ℕ, zero, suc, ◌+◌, ◌-◌, ◌<◌, ◌≤◌}
use lib.ListN.{length, get_or, set, take, drop, length-append}
use lib.Seq.{length-take-le, take-nil, drop_at, take_at, take-take, drop-drop, take-set-le, drop-set-lt, sets, sets-eq}
use Rattle.terms_bytes.proofs.Stores.{get_d_span}
use Rattle.field_kept_lists.specs.ListArea.{Elsewhere}

-- Two lists that begin alike begin alike before that too, and so with their ends.
pub fewer : (k m : ℕ) (a b : List ℕ) → k ≤ m → take m a ≡ take m b → take k a ≡ take k b
fewer k m a b h e = sym (take-take k m a h) ∙ ap (take k) e ∙ take-take k m b h

later : (k m : ℕ) (a b : List ℕ) → k ≤ m → drop k a ≡ drop k b → drop m a ≡ drop m b
later k m a b h e =
    let z : m ≡ k + (m - k) = omega arith in
    ap (λ i. drop i a) z ∙ sym (drop-drop (m - k) k a) ∙ ap (drop (m - k)) e ∙ drop-drop (m - k) k b ∙ ap (λ i. drop i b) (sym z)

-- A window: m elements at q, or the end of the first q + m.
pub window : (q m : ℕ) (l : List ℕ) → drop q (take (q + m) l) ≡ take m (drop q l)
window zero m l = rw zero-add
window (suc q) m [] = ap (drop (suc q)) (take-nil (suc q + m)) ∙ sym (take-nil m)
window (suc q) m (x ∷ l) = rw suc-add (window q m l)

module _ (p n : ℕ) (a b : List ℕ) (e : Elsewhere p n a b) where
  pub window_before : (q m : ℕ) → q + m ≤ p → take m (drop q b) ≡ take m (drop q a)
  window_before q m h = sym (window q m b) ∙ ap (drop q) (fewer (q + m) p b a h e.before) ∙ window q m a

  pub window_behind : (q m : ℕ) → p + n ≤ q → take m (drop q b) ≡ take m (drop q a)
  window_behind q m h = ap (take m) (later (p + n) q b a h e.behind)

  byte : (j : ℕ) → take 1 (drop j b) ≡ take 1 (drop j a) → get_or b j 0 ≡ get_or a j 0
  byte j d =
      let z : j + 0 ≡ j = omega arith in
      ap (λ k. get_or b k 0) (sym z)
      ∙ sym (get_d_span b j 1 0 (omega arith))
      ∙ ap (λ l. get_or l 0 0) d
      ∙ get_d_span a j 1 0 (omega arith)
      ∙ ap (λ k. get_or a k 0) z

  pub byte-before : (j : ℕ) → j < p → get_or b j 0 ≡ get_or a j 0
  byte-before j h = byte j (window_before j 1 (omega arith))

  pub byte-behind : (j : ℕ) → p + n ≤ j → get_or b j 0 ≡ get_or a j 0
  byte-behind j h = byte j (window_behind j 1 h)

  pub wider : (q m : ℕ) → q ≤ p → p + n ≤ q + m → Elsewhere q m a b
  wider q m h k = record { before = fewer q p b a h e.before; behind = later (p + n) (q + m) b a k e.behind }

-- One change after the other, and the changes by stores.
pub after : (p n : ℕ) (a b c : List ℕ) → Elsewhere p n a b → Elsewhere p n b c → Elsewhere p n a c
after p n a b c e f = record { before = f.before ∙ e.before; behind = f.behind ∙ e.behind }

pub one_set : (l : List ℕ) (i v p n : ℕ) → p ≤ i → i < p + n → Elsewhere p n l (set l i v)
one_set l i v p n h k = record { before = take-set-le p l i v h; behind = drop-set-lt (p + n) l i v k }

pub run_set : (l xs : List ℕ) (p : ℕ) → p + length xs ≤ length l → Elsewhere p (length xs) l (sets l p xs)
run_set l xs p h =
    let front : length (take p l) ≡ p = length-take-le p l (omega arith) in
    record {
      before = ap (take p) (sets-eq xs l p h ∙ append_assoc (take p l) xs (drop (p + length xs) l)) ∙ take_at (take p l) (xs ++ drop (p + length xs) l) p front;
      behind = ap (drop (p + length xs)) (sets-eq xs l p h) ∙ drop_at (take p l ++ xs) (drop (p + length xs) l) (p + length xs) (omega (arith, length-append (take p l) xs));
    }
