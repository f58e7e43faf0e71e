-- Check 18: names one by one. Assumes nothing.
use mathlib.Core.Bool.{Bool, true, false, ◌&&◌, ◌||◌, not, and-false}
use mathlib.Core.List.{List, [], ◌∷◌}
use mathlib.Core.Path.{◌≡◌, refl, ap₂, sym, ap, ◌∙◌}
use native.Mathlib.Decide.{ℕ_discrete}
use native.Mathlib.Omega.{arith}
use Prim.Native.Nat.{ℕ, suc, ◌+◌, ◌<◌, ◌≤◌}
use lib.Dec.{eqb, ltb}
use Rattle.std.specs.List.{list_any}
use lib.ListN.{length, get_or, drop, drop_of_length-le}
use lib.Seq.{drop-cons}
use borrow.Author.Tests.{eq-eqb, ne_eqb, lt-ltb, le-ltb, le-leb, lt-leb}
use Rattle.calculus.specs.Distinction.{among}
use Rattle.terms.specs.Limits.{name_count}
use Rattle.terms.specs.Question.{every}
use Rattle.fewest.specs.Apart.{most_names, no_repeat, names_given}

-- the library's test
eqb_sym : (x n : ℕ) → eqb x n ≡ eqb n x
eqb_sym x n = go (ℕ_discrete x n)
  where
    go : Dec (x ≡ n) → eqb x n ≡ eqb n x
    go (yes e) = eq-eqb x n e ∙ sym (eq-eqb n x (sym e))
    go (no d) = ne_eqb x n d ∙ sym (ne_eqb n x (λ e. d (sym e)))

pub any_among : (names : List ℕ) (n : ℕ) → list_any (λ x. eqb x n) names ≡ among names n
unfolding among
any_among [] n = refl
any_among (x ∷ names) n = ap₂ ◌||◌ (eqb_sym x n) (any_among names n)

-- what check 18 asks of the names one by one
abbrev pub named : ℕ → Bool
named n = ltb n name_count

abbrev pub each : List ℕ → Bool
each names = every named names && no_repeat names

pub too_many : (names : List ℕ) → most_names < length names → false ≡ names_given names
unfolding names_given
too_many names h = sym (ap (λ t. t && every named names && no_repeat names) (lt-leb (length names) most_names h))

pub few_enough : (names : List ℕ) → length names ≤ most_names → names_given names ≡ each names
unfolding names_given
few_enough names h = ap (λ t. t && every named names && no_repeat names) (le-leb (length names) most_names h)

pub each_end : (names : List ℕ) (i : ℕ) → length names ≤ i → true ≡ each (drop i names)
unfolding every no_repeat
each_end names i h = sym (ap each (drop_of_length-le names h))

module _ (names : List ℕ) (i : ℕ) (inside : i < length names) where
  abbrev x : ℕ
  x = get_or names i 0

  abbrev xs : List ℕ
  xs = drop (i + 1) names

  one : drop i names ≡ x ∷ xs
  one = let s : suc i ≡ i + 1 = omega arith in drop-cons names i 0 inside ∙ ap (λ k. get_or names i 0 ∷ drop k names) s

  pub each_no_name : name_count ≤ x → false ≡ each (drop i names)
  unfolding every no_repeat
  each_no_name h = sym (ap each one ∙ ap (λ t. (t && every named xs) && (not (among xs x) && no_repeat xs)) (le-ltb x name_count h))

  pub each_again : true ≡ among xs x → false ≡ each (drop i names)
  unfolding every no_repeat
  each_again h =
      sym (ap each one ∙ ap (λ t. (named x && every named xs) && (not t && no_repeat xs)) (sym h) ∙ and-false (named x && every named xs))

  pub each_on : x < name_count → false ≡ among xs x → each (drop i names) ≡ each xs
  unfolding every no_repeat
  each_on h k =
      ap each one ∙ ap (λ t. (t && every named xs) && (not (among xs x) && no_repeat xs)) (lt-ltb x name_count h)
      ∙ ap (λ t. every named xs && (not t && no_repeat xs)) (sym k)
