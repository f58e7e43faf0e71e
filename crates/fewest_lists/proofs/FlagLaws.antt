-- Flags of pairs: those that an apart list sets, and those of pairs that may be chosen. Assumes nothing.
use mathlib.Core.Bool.{Bool, true, false, cond, ◌&&◌, not, and-false}
use mathlib.Core.List.{List, [], ◌∷◌, map}
use mathlib.Core.Path.{◌≡◌, refl, sym, ap, ◌∙◌}
use native.Mathlib.Omega.{arith}
use Prim.Native.Nat.{ℕ, ◌<◌}
use lib.Dec.{eqb}
use Rattle.std.specs.Int.{from_bool}
use lib.ListN.{length, get_or, length-map, get_or-map}
use lib.Seq.{ext_get_or}
use Rattle.calculus.specs.Cond.{Pairs}
use Rattle.calculus.specs.Distinction.{among, keep}
use Rattle.terms.specs.Limits.{name_count}
use Rattle.terms.specs.Operations.{holds_apart}
use Rattle.field_pairs.specs.PairFlags.{pair_count}
use Rattle.field_pairs.specs.Slot.{flag, flags_of}
use Rattle.steps_conditions.proofs.ClassBytes.{inside}
use Rattle.field_pairs.proofs.PairLaws.{flag_at}
use Rattle.field_pairs.proofs.NamePairs.{length_pairs}
use Rattle.fewest.specs.Choices.{may_choose, candidate_pairs, in_order}
use Rattle.fewest_lists.specs.Lists.{open_flags, flagged}
use Rattle.field.specs.Situation.{all_pairs}
use Rattle.field_pairs.specs.PairNumbers.{pair_at}

-- the flag that a test sets
pub flag-set : (b : Bool) → true ≡ b → 1 ≡ flag b
unfolding flag
flag-set b e = ap flag e

pub flag_unset : (b : Bool) → false ≡ b → 0 ≡ flag b
unfolding flag
flag_unset b e = ap flag e

pub flag_from : (b : Bool) → from_bool b ≡ flag b
unfolding flag
flag_from true = refl
flag_from false = refl

-- what an unset flag says
pub unset : (b : Bool) → flag b ≡ 0 → b ≡ false
unfolding flag
unset true e = absurd (omega arith)
unset false e = refl

pub was_set : (b : Bool) → (flag b ≡ 0 → ⊥) → b ≡ true
unfolding flag
was_set true e = refl
was_set false e = absurd (e refl)

-- The flags of any test, one by one.
module _ (f : ℕ → ℕ → Bool) where
  abbrev tested : ℕ × ℕ → ℕ
  tested p = flag (f p.0 p.1)

  length-tested : length (map tested (all_pairs name_count)) ≡ pair_count
  length-tested = length-map (all_pairs name_count) tested ∙ length_pairs

  pub tested_are : (l : List ℕ) → length l ≡ pair_count → ((k : ℕ) → k < pair_count → get_or l k 0 ≡ flag (f (pair_at name_count k).0 (pair_at name_count k).1))
      → l ≡ map (λ p. flag (f p.0 p.1)) (all_pairs name_count)
  unfolding pair_at
  tested_are l n h =
      ext_get_or 0 l (map tested (all_pairs name_count)) (n ∙ sym length-tested) (λ k lt.
      h k (omega arith)
      ∙ sym (inside (map tested (all_pairs name_count)) k 0 (flag (f 0 0)) (omega (arith, length-tested)) ∙ get_or-map tested (all_pairs name_count) k (0, 0)))

  -- the pairs whose flags are set are those that pass
  pub flagged-keep : (ps : Pairs) → flagged (map (λ p. flag (f p.0 p.1)) ps) ps ≡ keep f ps
  unfolding flagged keep flag
  flagged-keep [] = refl
  flagged-keep (p ∷ ps) = go (f p.0 p.1) (flagged-keep ps)
    where
      go : (b : Bool) → flagged (map (λ p. flag (f p.0 p.1)) ps) ps ≡ keep f ps
          → cond (eqb (flag b) 0) (flagged (map (λ p. flag (f p.0 p.1)) ps) ps) (p ∷ flagged (map (λ p. flag (f p.0 p.1)) ps) ps)
          ≡ cond b (p ∷ keep f ps) (keep f ps)
      go true e = ap (p ∷◌) e
      go false e = e

pub flagged_apart : (D : Pairs) → flagged (flags_of D) (all_pairs name_count) ≡ in_order name_count D
unfolding flags_of in_order all_pairs
flagged_apart D = flagged-keep (holds_apart D) (all_pairs name_count)

pub flagged_open : (names : List ℕ) (D : Pairs) → flagged (open_flags names D) (all_pairs name_count) ≡ candidate_pairs name_count names D
unfolding open_flags candidate_pairs all_pairs
flagged_open names D = flagged-keep (may_choose names D) (all_pairs name_count)

-- apart already; not one of the names; both of them
module _ (names : List ℕ) (D : Pairs) (a b : ℕ) where
  pub held_already : holds_apart D a b ≡ true → false ≡ may_choose names D a b
  unfolding may_choose
  held_already h = sym (ap (λ t. among names a && among names b && not t) h ∙ and-false (among names a && among names b))

  pub first_not_given : false ≡ among names a → false ≡ may_choose names D a b
  unfolding may_choose
  first_not_given h = ap (λ t. t && among names b && not (holds_apart D a b)) h

  pub second_not_given : false ≡ among names b → false ≡ may_choose names D a b
  unfolding may_choose
  second_not_given h = sym (ap (λ t. t && not (holds_apart D a b)) (ap (λ t. among names a && t) (sym h) ∙ and-false (among names a)))

  pub both-given : holds_apart D a b ≡ false → true ≡ among names a → true ≡ among names b → true ≡ may_choose names D a b
  unfolding may_choose
  both-given h x y = rw (← x, ← y, h) refl

-- what a flag of an apart list says
module _ (flags : List ℕ) (D : Pairs) (k : ℕ) (inside-all : k < pair_count) (are : flags ≡ flags_of D) where
  flag_is : get_or flags k 0 ≡ flag (holds_apart D (pair_at name_count k).0 (pair_at name_count k).1)
  flag_is = ap (λ l. get_or l k 0) are ∙ flag_at D k inside-all

  pub set_apart : (get_or flags k 0 ≡ 0 → ⊥) → holds_apart D (pair_at name_count k).0 (pair_at name_count k).1 ≡ true
  set_apart n = was_set _ (λ z. n (flag_is ∙ z))

  pub unset_apart : get_or flags k 0 ≡ 0 → holds_apart D (pair_at name_count k).0 (pair_at name_count k).1 ≡ false
  unset_apart z = unset _ (sym flag_is ∙ z)
