-- The list of the classes of the names below a number is the condition, where that matches no other names; and tests of such lists.
-- Assumes nothing.
use mathlib.Core.Bool.{true}
use mathlib.Core.List.{List, [], ◌∷◌, map}
use mathlib.Core.Path.{◌≡◌, refl, sym, ◌∙◌, ap, subst, fun_ext}
use native.Mathlib.Decide.{ℕ_discrete, dec_lt}
use native.Mathlib.Omega.{arith}
use Prim.Native.Nat.{ℕ, zero, suc, ◌+◌, ◌<◌, ◌≤◌}
use lib.Dec.{eqb}
use lib.ListN.{length, get_or, length-map, get_or-eq_default}
use borrow.Author.Tests.{eq-eqb, eqb-true}
use Rattle.calculus.specs.Cond.{Cond, cls}
use Rattle.calculus.proofs.Conditions.{E1, E4, Occ}
use Rattle.terms.proofs.Answers.{both_true, true_both}
use Rattle.steps.specs.Listed.{names_from, classes_of, class_in, implies, own_classes}

length-names : (n k : ℕ) → length (names_from n k) ≡ k
unfolding names_from
length-names n zero = refl
length-names n (suc k) = ap suc (length-names (suc n) k)

get_d_names : (f : ℕ → ℕ) (n k i d : ℕ) → i < k → get_or (map f (names_from n k)) i d ≡ f (n + i)
unfolding names_from
get_d_names f n zero i d h = absurd (omega arith)
get_d_names f n (suc k) zero d h = let e : n + 0 ≡ n = omega arith in ap f (sym e)
get_d_names f n (suc k) (suc i) d h =
    let e : suc n + i ≡ n + suc i = omega arith in
    get_d_names f (suc n) k i d (omega arith) ∙ ap f e

pub length_classes : (names : ℕ) (M : Cond) → length (classes_of names M) ≡ names
unfolding classes_of
length_classes names M = length-map (names_from 0 names) (cls M) ∙ length-names 0 names

pub class_of : (names : ℕ) (M : Cond) (n d : ℕ) → n < names → get_or (classes_of names M) n d ≡ cls M n
unfolding classes_of
class_of names M n d h = let e : 0 + n ≡ n = omega arith in get_d_names (cls M) 0 names n d h ∙ ap (cls M) e

-- M matches no name with another but those below `names`
abbrev pub Within : ℕ → Cond → Type 0
Within names M = (n : ℕ) → Occ n M → n < names

pub unmatched : (M : Cond) (n : ℕ) → ¬ Occ n M → cls M n ≡ n
unmatched M n h = go (ℕ_discrete (cls M n) n)
  where
    go : Dec (cls M n ≡ n) → cls M n ≡ n
    go (yes e) = e
    go (no k) = absurd (h (E4 M (cls M n) n (E1 M n) k))

class_at : (names : ℕ) (M : Cond) → Within names M → (n : ℕ) → class_in (classes_of names M) n ≡ cls M n
unfolding class_in classes_of
class_at names M w n = go (dec_lt n names)
  where
    go : Dec (n < names) → get_or (map (cls M) (names_from 0 names)) n n ≡ cls M n
    go (yes h) = class_of names M n n h
    go (no h) =
        let l : length (map (cls M) (names_from 0 names)) ≤ n = omega (arith, length-map (names_from 0 names) (cls M), length-names 0 names) in
        get_or-eq_default (map (cls M) (names_from 0 names)) n l ∙ sym (unmatched M n (λ o. h (w n o)))

-- to rewrite by the list is to rewrite by the condition
pub class_list : (names : ℕ) (M : Cond) → Within names M → class_in (classes_of names M) ≡ cls M
class_list names M w = fun_ext (class_at names M w)

-- Classes that absorb those of another condition imply it.
pub in_implies : (c d ns : List ℕ) → ((n : ℕ) → class_in c (class_in d n) ≡ class_in c n) → implies c d ns ≡ true
unfolding implies
in_implies c d [] h = refl
in_implies c d (n ∷ ns) h =
    true_both (eqb (class_in c (class_in d n)) (class_in c n)) (implies c d ns)
    (eq-eqb (class_in c (class_in d n)) (class_in c n) (h n)) (in_implies c d ns h)

-- Under a trivial condition each name is its own class.
pub all_own : (c : List ℕ) (k n : ℕ) → own_classes c (names_from k n) ≡ true → (j : ℕ) → k ≤ j → j < k + n → class_in c j ≡ j
unfolding own_classes names_from
all_own c k zero e j h l = absurd (omega arith)
all_own c k (suc n) e j h l =
    let (a, b) = both_true (eqb (class_in c k) k) (own_classes c (names_from (suc k) n)) e in
    go (eqb-true (class_in c k) k a) (λ h'. all_own c (suc k) n b j h' (omega arith)) (ℕ_discrete j k)
  where
    go : class_in c k ≡ k → (suc k ≤ j → class_in c j ≡ j) → Dec (j ≡ k) → class_in c j ≡ j
    go a r (yes q) = subst (λ m. class_in c m ≡ m) (sym q) a
    go a r (no q) = r (omega arith)
