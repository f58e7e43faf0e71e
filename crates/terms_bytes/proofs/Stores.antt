-- Pieces of lists, and runs of stores `sets l p xs`: the algebra of functions that write into a lent area. Assumes nothing.
use mathlib.Core.Path.{◌≡◌, refl, sym, ap, ◌∙◌}
use mathlib.Core.List.{List, [], ◌∷◌, ◌++◌, map, append_assoc, reverse, reverse_aux}
use mathlib.Core.Logic.{⊎_elim}
use Prim.Native.Nat.{ℕ, zero, suc, ◌+◌, ◌-◌, ◌<◌, ◌≤◌}
use native.Mathlib.Nat.{add-zero, zero-add, not-suc-le-zero, le_of_suc-le-suc, eq-or-lt_of_le}
use native.Mathlib.Numerals.{add-one}
use native.Mathlib.Omega.{arith}
use borrow.Rule.Slice.PartMut.{put_mid}
use lib.ListN.{length, get_or, take, drop, set, length-append, length-take, length-drop, length-set, get_or-append}
use lib.Seq.{sets, sets-eq, drop-drop, drop-append_seam, take-append_seam, take-suc, get_or-take, get_or-drop, length-take-le, take_all, get_or-set_same, get_or-set_other}

-- Two runs, one after the other, are one.
pub sets-append : (l : List ℕ) (p : ℕ) (xs ys : List ℕ) → sets l p (xs ++ ys) ≡ sets (sets l p xs) (p + length xs) ys
sets-append l p [] ys = rw add-zero
sets-append l p (x ∷ xs) ys =
    let e : suc p + length xs ≡ p + suc (length xs) = omega arith in
    rw (← e) (sets-append (set l p x) (suc p) xs ys)

-- The same where the second run's start is written another way.
pub sets-join : (l : List ℕ) (p q : ℕ) (xs ys : List ℕ) → q ≡ p + length xs → sets (sets l p xs) q ys ≡ sets l p (xs ++ ys)
sets-join l p q xs ys e = rw (e, sets-append)

-- One more element of a run.
pub sets_more : (l xs : List ℕ) (p i : ℕ) → i < length xs → set (sets l p (take i xs)) (p + i) (get_or xs i 0) ≡ sets l p (take (i + 1) xs)
sets_more l xs p i h =
    let n : length (take i xs) ≡ i = length-take-le i xs (omega arith) in
    let j = sets-join l p (p + i) (take i xs) (get_or xs i 0 ∷ []) (ap (λ (k : ℕ). p + k) (sym n)) in
    rw (add-one, take-suc xs i 0) j

pub get_d_map : (f : ℕ → ℕ) (l : List ℕ) (i : ℕ) → i < length l → get_or (map f l) i 0 ≡ f (get_or l i 0)
get_d_map f [] i h = absurd (not-suc-le-zero h)
get_d_map f (x ∷ xs) zero h = refl
get_d_map f (x ∷ xs) (suc i) h = get_d_map f xs i (le_of_suc-le-suc h)

-- The n elements of s from `at` on.
abbrev pub span : List ℕ → ℕ → ℕ → List ℕ
span s at n = take n (drop at s)

pub length-span : (s : List ℕ) (at n : ℕ) → at + n ≤ length s → length (span s at n) ≡ n
length-span s at n h = simp (length-take, length-drop) (omega arith)

pub get_d_span : (s : List ℕ) (at n i : ℕ) → i < n → get_or (span s at n) i 0 ≡ get_or s (at + i) 0
get_d_span s at n i h = rw (get_or-take, get_or-drop)

-- What is read at an index of what stands at `at`.
pub get_d_front : (s : List ℕ) (at : ℕ) (xs rest : List ℕ) (k : ℕ) → drop at s ≡ xs ++ rest → k < length xs → get_or s (at + k) 0 ≡ get_or xs k 0
get_d_front s at xs rest k e h = sym (get_or-drop at s k 0) ∙ ap (λ (l : List ℕ). get_or l k 0) e ∙ get_or-append xs rest 0 k h

-- A run that went on to its end.
pub run_whole : (l xs : List ℕ) (p i : ℕ) (l' : List ℕ) → length xs ≤ i → l' ≡ sets l p (take i xs) → l' ≡ sets l p xs
run_whole l xs p i l' h e = e ∙ ap (sets l p) (take_all i xs h)

-- A part of a list with other elements in it is a run of stores.
pub put-run : (l xs : List ℕ) (p k : ℕ) → p + length xs ≤ length l → k ≡ length xs → put_mid p k l xs ≡ sets l p xs
put-run l xs p k h e = rw (e, drop-drop) (sym (append_assoc (take p l) xs (drop (p + length xs) l)) ∙ sym (sets-eq xs l p h))

-- A run over as many elements in the middle of a list.
pub sets_middle : (A B C B' : List ℕ) (p : ℕ) → p ≡ length A → length B' ≡ length B → sets (A ++ (B ++ C)) p B' ≡ A ++ (B' ++ C)
sets_middle A B C B' p e n =
    let l : p + length B' ≤ length (A ++ (B ++ C)) = omega (arith, length-append A (B ++ C), length-append B C) in
    let r : drop (p + length B') (A ++ (B ++ C)) ≡ C = rw (e, n, ← drop-drop, drop-append_seam, drop-append_seam) in
    sets-eq B' (A ++ (B ++ C)) p l ∙ rw (r, e, take-append_seam, append_assoc)

-- A run from the start of an area that holds it.
pub sets-start : (l xs : List ℕ) → length xs ≤ length l → sets l 0 xs ≡ xs ++ drop (length xs) l
sets-start l xs h = sets-eq xs l 0 (rw zero-add h) ∙ rw zero-add

-- What stands before a run, behind it, and in it.
pub get_d_before : (l : List ℕ) (p q : ℕ) (xs : List ℕ) → p < q → get_or (sets l q xs) p 0 ≡ get_or l p 0
get_d_before l p q [] h = refl
get_d_before l p q (x ∷ xs) h = get_d_before (set l q x) p (suc q) xs (omega arith) ∙ get_or-set_other l q p x 0 (λ e. omega arith)

pub get_d_behind : (l : List ℕ) (p k : ℕ) (xs : List ℕ) → p + length xs ≤ k → get_or (sets l p xs) k 0 ≡ get_or l k 0
get_d_behind l p k [] h = refl
get_d_behind l p k (x ∷ xs) h = get_d_behind (set l p x) (suc p) k xs (omega arith) ∙ get_or-set_other l p k x 0 (λ z. omega arith)

pub get_d_stored : (l : List ℕ) (p : ℕ) (xs : List ℕ) → p + length xs ≤ length l → (k : ℕ) → k < length xs → get_or (sets l p xs) (p + k) 0 ≡ get_or xs k 0
get_d_stored l p [] h k m = absurd (omega arith)
get_d_stored l p (x ∷ xs) h zero m = rw add-zero (get_d_before (set l p x) p (suc p) xs (omega arith) ∙ get_or-set_same l p x 0 (omega arith))
get_d_stored l p (x ∷ xs) h (suc k) m =
    let e : p + suc k ≡ suc p + k = omega arith in
    rw e (get_d_stored (set l p x) (suc p) xs (omega (arith, length-set l p x)) k (omega arith))

-- Index m of a list that is turned round is the m-th from the end.
past_reversed : (xs ys : List ℕ) (m : ℕ) → get_or (reverse_aux xs ys) (length xs + m) 0 ≡ get_or ys m 0
past_reversed [] ys m = ap (λ (k : ℕ). get_or ys k 0) (omega arith)
past_reversed (x ∷ xs) ys m =
    let e : suc (length xs) + m ≡ length xs + suc m = omega arith in
    ap (λ (k : ℕ). get_or (reverse_aux xs (x ∷ ys)) k 0) e ∙ past_reversed xs (x ∷ ys) (suc m)

reversed_onto : (xs ys : List ℕ) (m : ℕ) → m < length xs → get_or (reverse_aux xs ys) m 0 ≡ get_or xs (length xs - 1 - m) 0
reversed_onto [] ys m h = absurd (not-suc-le-zero h)
reversed_onto (x ∷ xs) ys m h = ⊎_elim
    (λ (q : m ≡ length xs).
    let e : m ≡ length xs + 0 = omega arith in
    let z : suc (length xs) - 1 - m ≡ 0 = omega arith in
    ap (λ (k : ℕ). get_or (reverse_aux xs (x ∷ ys)) k 0) e ∙ past_reversed xs (x ∷ ys) 0 ∙ ap (λ (k : ℕ). get_or (x ∷ xs) k 0) (sym z))
    (λ (q : m < length xs).
    let e : suc (length xs) - 1 - m ≡ suc (length xs - 1 - m) = omega arith in
    reversed_onto xs (x ∷ ys) m q ∙ ap (λ (k : ℕ). get_or (x ∷ xs) k 0) (sym e))
    (eq-or-lt_of_le {n = m} {m = length xs} (omega arith))

pub get_d_reverse : (xs : List ℕ) (m : ℕ) → m < length xs → get_or (reverse xs) m 0 ≡ get_or xs (length xs - 1 - m) 0
get_d_reverse xs m h = reversed_onto xs [] m h
