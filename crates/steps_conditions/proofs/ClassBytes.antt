-- The classes of a listed step as they stand in a list: what is read of them, and the tests of them name by name. Assumes nothing.
use mathlib.Core.Path.{◌≡◌, refl, sym, ap, ◌∙◌}
use mathlib.Core.Bool.{Bool, true, false, not, ◌&&◌}
use mathlib.Core.List.{List, [], ◌∷◌}
use Prim.Native.Nat.{ℕ, zero, suc, ◌+◌, ◌-◌, ◌<◌, ◌≤◌}
use native.Mathlib.Decide.{dec_lt}
use native.Mathlib.Omega.{arith}
use lib.ListN.{length, get_or, length-append, length-drop, get_or-append, get_or-eq_default}
use lib.Seq.{get_or-drop}
use lib.Dec.{eqb}
use borrow.Author.Tests.{eq-eqb, ne_eqb, eqb-true}
use Rattle.terms.specs.Limits.{name_count}
use Rattle.steps.specs.Listed.{names_from, class_in, implies, own_classes}
use Rattle.steps.proofs.ClassLists.{in_implies, all_own}
use Rattle.steps_conditions.specs.Conditions.{ClassesAt, ClassOfIs, TrivialIs, ImpliesIs, RespectsIs}

-- what stands behind the end matters not within
pub inside : (l : List ℕ) (n a b : ℕ) → n < length l → get_or l n a ≡ get_or l n b
inside [] n a b h = absurd (omega arith)
inside (x ∷ l) zero a b h = refl
inside (x ∷ l) (suc n) a b h = inside l n a b (omega arith)

module _ (area : List ℕ) (at : ℕ) (c : List ℕ) (e : ClassesAt area at c) where
  pub class_byte : (n : ℕ) → n < name_count → get_or area (at + n) 0 ≡ class_in c n
  unfolding class_in
  class_byte n l =
      let h : n < length c = omega (arith, e.count) in
      sym (get_or-drop at area n 0) ∙ ap (λ k. get_or k n 0) e.there ∙ get_or-append c e.rest 0 n h ∙ inside c n 0 n h

  pub class_alone : (n : ℕ) → name_count ≤ n → n ≡ class_in c n
  unfolding class_in
  class_alone n l = sym (get_or-eq_default c n (omega (arith, e.count)))

  pub classes_long : at + name_count ≤ length area
  classes_long = omega (arith, e.count, length-drop at area, ap length e.there, length-append c e.rest)

-- The test whether each name is its own class, name by name.
and_true : (s : Bool) → (s && true) ≡ s
and_true true = refl
and_true false = refl

and_false : (s : Bool) → (s && false) ≡ false
and_false true = refl
and_false false = refl

and_assoc : (s t u : Bool) → (s && (t && u)) ≡ ((s && t) && u)
and_assoc true t u = refl
and_assoc false t u = refl

own-last : (c : List ℕ) (k n : ℕ) → own_classes c (names_from k (suc n)) ≡ (own_classes c (names_from k n) && eqb (class_in c (k + n)) (k + n))
unfolding own_classes names_from
own-last c k zero = and_true (eqb (class_in c k) k) ∙ ap (λ j. eqb (class_in c j) j) (omega arith)
own-last c k (suc n) =
    ap (λ b. eqb (class_in c k) k && b) (own-last c (suc k) n)
    ∙ and_assoc (eqb (class_in c k) k) (own_classes c (names_from (suc k) n)) (eqb (class_in c (suc k + n)) (suc k + n))
    ∙ ap (λ j. own_classes c (names_from k (suc n)) && eqb (class_in c j) j) (omega arith)

abbrev pub OwnBelow : List ℕ → ℕ → ℕ → Bool → Type 0
OwnBelow area at n t = (c : List ℕ) → ClassesAt area at c → t ≡ own_classes c (names_from 0 n)

module _ (area : List ℕ) (at n : ℕ) (t : Bool) (l : n < name_count) (so : OwnBelow area at n t) where
  more : (c : List ℕ) → ClassesAt area at c → own_classes c (names_from 0 (n + 1)) ≡ (t && eqb (class_in c n) n)
  more c e =
      let j : n + 1 ≡ suc n = omega arith in
      let k : 0 + n ≡ n = omega arith in
      ap (λ m. own_classes c (names_from 0 m)) j ∙ own-last c 0 n ∙ rw (k, ← so c e)

  pub own_next : get_or area (at + n) 0 ≡ n → OwnBelow area at (n + 1) t
  own_next q c e =
      sym (more c e ∙ ap (λ b. t && b) (eq-eqb (class_in c n) n (sym (class_byte area at c e n l) ∙ q)) ∙ and_true t)

  pub own_not : (get_or area (at + n) 0 ≡ n → ⊥) → OwnBelow area at (n + 1) false
  own_not q c e =
      sym (more c e ∙ ap (λ b. t && b) (ne_eqb (class_in c n) n (λ z. q (class_byte area at c e n l ∙ z))) ∙ and_false t)

pub own-none : (area : List ℕ) (at : ℕ) → OwnBelow area at 0 true
unfolding own_classes names_from
own-none area at c e = refl

pub trivial_is : (area : List ℕ) (at n : ℕ) (t : Bool) → n ≡ name_count → OwnBelow area at n t → TrivialIs area at t
unfolding TrivialIs
trivial_is area at n t past so c e = so c e ∙ ap (λ m. own_classes c (names_from 0 m)) past

-- what is too short to have classes stands in no list
pub not_trivial : (area : List ℕ) (at : ℕ) → length area < at + name_count → TrivialIs area at false
unfolding TrivialIs
not_trivial area at h c e = absurd (omega (arith, classes_long area at c e))

-- A step without a condition: each name is its own class.
pub trivial_own : (area : List ℕ) (at : ℕ) (r : Bool) → TrivialIs area at r → r ≡ true → (c : List ℕ) → ClassesAt area at c
    → (n : ℕ) → class_in c n ≡ n
unfolding TrivialIs
trivial_own area at r h q c e n = go (dec_lt n name_count)
  where
    go : Dec (n < name_count) → class_in c n ≡ n
    go (yes l) = all_own c 0 name_count (sym (h c e) ∙ q) n (omega arith) (omega arith)
    go (no l) = sym (class_alone area at c e n (omega arith))

-- What merges no names is implied.
pub implied_trivial : (area : List ℕ) (at : ℕ) (others : List ℕ) (place : ℕ) (r : Bool) → TrivialIs others place r → r ≡ true
    → ImpliesIs area at others place true
unfolding ImpliesIs
implied_trivial area at others place r h q c d e f =
    sym (in_implies c d (names_from 0 name_count) (λ n. ap (class_in c) (trivial_own others place r h q d f n)))

-- The test of implication name by name: those below n agree.
abbrev pub Implied : List ℕ → ℕ → List ℕ → ℕ → ℕ → Type 0
Implied area at others place n =
    (c d : List ℕ) → ClassesAt area at c → ClassesAt others place d
    → implies c d (names_from 0 name_count) ≡ implies c d (names_from n (name_count - n))

module _ (area : List ℕ) (at : ℕ) (others : List ℕ) (place n : ℕ) (l : n < name_count) (so : Implied area at others place n)
    (other merged own : ℕ) (O : ClassOfIs others place n other) (M : ClassOfIs area at other merged) (C : ClassOfIs area at n own) where
  one : (c d : List ℕ) → ClassesAt area at c → ClassesAt others place d
      → implies c d (names_from n (name_count - n)) ≡ (eqb merged own && implies c d (names_from (n + 1) (name_count - (n + 1))))
  unfolding implies names_from ClassOfIs
  one c d e f =
      let k : name_count - n ≡ suc (name_count - (n + 1)) = omega arith in
      let j : suc n ≡ n + 1 = omega arith in
      let x : class_in c (class_in d n) ≡ merged = ap (class_in c) (sym (O d f)) ∙ sym (M c e) in
      rw (k, j, x, ← C c e)

  pub implied_next : merged ≡ own → Implied area at others place (n + 1)
  implied_next q c d e f = so c d e f ∙ one c d e f ∙ rw (eq-eqb merged own q)

  pub implied_not : (merged ≡ own → ⊥) → ImpliesIs area at others place false
  unfolding ImpliesIs
  implied_not q c d e f = sym (so c d e f ∙ one c d e f ∙ rw (ne_eqb merged own q))

pub implied_all : (area : List ℕ) (at : ℕ) (others : List ℕ) (place n : ℕ) → n ≡ name_count → Implied area at others place n
    → ImpliesIs area at others place true
unfolding ImpliesIs implies names_from
implied_all area at others place n q so c d e f =
    sym (so c d e f ∙ ap (λ k. implies c d (names_from k (name_count - k))) q)

-- Two slots are merged exactly if their classes are one.
pub respects_is : (area : List ℕ) (at a b x y : ℕ) → x ≡ get_or area (at + a) 0 → y ≡ get_or area (at + b) 0 → RespectsIs area at a b (not (eqb x y))
respects_is area at a b x y p q = record {
  apart = λ t e. let z = ap not (eq-eqb x y (p ∙ e ∙ sym q)) in let k : ◌≡◌ {A = ℕ} 0 1 = cc in omega arith;
  merged = λ t. sym p ∙ eqb-true x y (go (eqb x y) t) ∙ q;
}
  where
    go : (u : Bool) → not u ≡ false → u ≡ true
    go true t = refl
    go false t = sym t
