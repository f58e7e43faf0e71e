-- Restrictions that stand one within the other: their run is found, and they are left one by one. Assumes nothing.
use mathlib.Core.Path.{◌≡◌, refl, sym, ap, subst, ◌∙◌}
use mathlib.Core.Bool.{Bool, true, false, cond}
use mathlib.Core.List.{List}
use Prim.Native.Nat.{ℕ, ◌+◌, ◌-◌, ◌<◌, ◌≤◌, max}
use native.Mathlib.Omega.{arith}
use borrow.Author.Tests.{eqb-true, eqb-false, ltb-true, ltb-false}
use lib.Dec.{eqb, ltb}
use lib.ListN.{length, get_or}
use Rattle.steps_conditions.specs.Labels.{MatchingIs, RestrictedIs}
use Rattle.steps_labels.specs.LabelWalk.{slot_at, RestrictionsIs, LeavesIs, past_of, OutsideOfIs, NthIs}
use Rattle.std.specs.Prelude.{Option}
use Rattle.steps_conditions.specs.declared.action.Label.{Label}
use Rattle.steps_labels.proofs.LabelWalks.{nth_mat, nth_res}

-- n restrictions stand at `at`
pub record Eights (s : List ℕ) (at n : ℕ) : Type 0 where
  pub are : (j : ℕ) → j < n → get_or s (at + j) 0 ≡ 8

pub eights_none : (s : List ℕ) (at n : ℕ) → n ≡ 0 → Eights s at n
eights_none s at n z = record { are = λ j h. absurd (omega arith) }

pub eights_more : (s : List ℕ) (at k : ℕ) → at ≤ k → get_or s k 0 ≡ 8 → Eights s at (k - at) → Eights s at (k + 1 - at)
eights_more s at k l g E = record { are = λ j h. go j h (eqb j (k - at)) refl }
  where
    go : (j : ℕ) → j < k + 1 - at → (b : Bool) → eqb j (k - at) ≡ b → get_or s (at + j) 0 ≡ 8
    go j h true e = let m : at + j ≡ k = omega (arith, eqb-true j (k - at) e) in ap (λ (m : ℕ). get_or s m 0) m ∙ g
    go j h false e = E.are j (omega (arith, eqb-false j (k - at) e))

module _ (s : List ℕ) (at k : ℕ) (l : at ≤ k) (m : k ≤ max at (length s)) (E : Eights s at (k - at)) where
  -- the run ends before a byte that is not 8, or where the bytes end
  pub run_ended : (get_or s k 0 ≡ 8 → ⊥) → RestrictionsIs s at (k - at)
  run_ended z = record {
    inside = omega arith;
    are = E.are;
    ended = λ h g. let m : k ≡ at + (k - at) = omega arith in z (ap (λ (m : ℕ). get_or s m 0) m ∙ g);
  }

  pub run_whole : length s ≤ k → RestrictionsIs s at (k - at)
  run_whole z = record { inside = omega arith; are = E.are; ended = λ h g. absurd (omega arith) }

-- where none is found the byte is not 8
run_none : (s : List ℕ) (at k : ℕ) → RestrictionsIs s at k → k ≡ 0 → at < length s → get_or s at 0 ≡ 8 → ⊥
run_none s at k R z h g = let m : at + k ≡ at = omega arith in R.ended (omega arith) (ap (λ (m : ℕ). get_or s m 0) m ∙ g)

-- Of `count` restrictions from `depth` on all but `left` are left.
pub record Leaving (label : Option Label) (depth count left : ℕ) (r : Option Label) : Type 0 where
  pub is : (question s : List ℕ) (at i : ℕ) (silently : Bool) (args : List ℕ) (inner calls : ℕ)
      → ((j : ℕ) → j < count → get_or s (at + j) 0 ≡ 8)
      → NthIs question s (at + count) i silently args (inner + count) (depth + count) calls label
      → NthIs question s (at + left) i silently args (inner + left) (depth + left) calls r

pub leaving_none : (label : Option Label) (depth count : ℕ) → Leaving label depth count count label
leaving_none label depth count = record { is = λ question s at i t args inner calls are N. N }

-- The same place, restrictions and depth by other sums.
moved : (question s : List ℕ) (i : ℕ) (t : Bool) (args : List ℕ) (calls : ℕ) (r : Option Label) (a b c x y z : ℕ) → a ≡ x → b ≡ y → c ≡ z
    → NthIs question s a i t args b c calls r → NthIs question s x i t args y z calls r
moved question s i t args calls r a b c x y z p q w N =
    subst (λ (k : ℕ). NthIs question s x i t args y k calls r) w (subst (λ (k : ℕ). NthIs question s x i t args k c calls r) q
    (subst (λ (k : ℕ). NthIs question s k i t args b c calls r) p N))

pub leaving_one : (label : Option Label) (depth count left m : ℕ) (p r : Option Label) → m + 1 ≡ left → left ≤ count → Leaving label depth count left p
    → RestrictedIs p (depth + m) r → Leaving label depth count m r
leaving_one label depth count left m p r e l L R = record {
  is = λ question s at i t args inner calls are N.
      nth_res question s (at + m) i t args (inner + m) (depth + m) calls (are m (omega arith)) p r
      (moved question s i t args calls p (at + left) (inner + left) (depth + left) (at + m + 1) (inner + m + 1) (depth + m + 1) (omega arith) (omega arith) (omega arith)
      (L.is question s at i t args inner calls are N)) R;
}

pub leaving_all : (label : Option Label) (depth count left : ℕ) (r : Option Label) → left ≤ 0 → Leaving label depth count left r → LeavesIs label depth count r
leaving_all label depth count left r z L = record {
  is = λ question s at i t args inner calls are N.
      moved question s i t args calls r (at + left) (inner + left) (depth + left) at inner depth (omega arith) (omega arith) (omega arith)
      (L.is question s at i t args inner calls are N);
}

-- What stands beneath: past a match, past restrictions, or neither.
past-none : (t k : ℕ) → past_of t k ≡ 0 → (t ≡ 5 → ⊥) × (k ≡ 0)
unfolding past_of
past-none t k z = go (eqb t 5) refl z
  where
    go : (b : Bool) → eqb t 5 ≡ b → cond b 3 k ≡ 0 → (t ≡ 5 → ⊥) × (k ≡ 0)
    go true e h = absurd (omega arith)
    go false e h = (eqb-false t 5 e, h)

-- not neither, if the form is no prefix, choice, parallel or call
pub past-some : (s : List ℕ) (at k : ℕ) → RestrictionsIs s at k → at < length s → 5 ≤ get_or s at 0 → get_or s at 0 ≤ 8 → (5 < get_or s at 0 → get_or s at 0 < 8 → ⊥)
    → past_of (get_or s at 0) k ≡ 0 → ⊥
past-some s at k R h l m one z =
    let n = past-none (get_or s at 0) k z in
    let e : get_or s at 0 ≡ 8 → ⊥ = run_none s at k R n.1 h in
    one (omega (arith, n.0)) (omega arith)

pub past_most : (t k : ℕ) → past_of t k ≤ k + 3
unfolding past_of
past_most t k = go (eqb t 5)
  where
    go : (b : Bool) → cond b 3 k ≤ k + 3
    go true = omega arith
    go false = omega arith

past-match : (t k : ℕ) → k ≡ 0 → (past_of t k ≡ 0 → ⊥) → (t ≡ 5) × (past_of t k ≡ 3)
unfolding past_of
past-match t k z n = go (eqb t 5) refl n
  where
    go : (b : Bool) → eqb t 5 ≡ b → (cond b 3 k ≡ 0 → ⊥) → (t ≡ 5) × (cond b 3 k ≡ 3)
    go true e h = (eqb-true t 5 e, refl)
    go false e h = absurd (h z)

past_run : (t k : ℕ) → t ≡ 8 → past_of t k ≡ k
unfolding past_of
past_run t k e = ap (λ (t : ℕ). past_of t k) e

-- the first of the run
first : (s : List ℕ) (at k : ℕ) → ((j : ℕ) → j < k → get_or s (at + j) 0 ≡ 8) → 0 < k → get_or s at 0 ≡ 8
first s at k are h = let e : at + 0 ≡ at = omega arith in ap (λ (m : ℕ). get_or s m 0) (sym e) ∙ are 0 h

pub past_over : (s : List ℕ) (at k : ℕ) → RestrictionsIs s at k → k ≤ past_of (get_or s at 0) k
past_over s at k R = go (ltb 0 k) refl
  where
    go : (b : Bool) → ltb 0 k ≡ b → k ≤ past_of (get_or s at 0) k
    go true e = omega (arith, past_run (get_or s at 0) k (first s at k R.are (ltb-true 0 k e)))
    go false e = omega (arith, ltb-false 0 k e)

module _ (s : List ℕ) (at count : ℕ) (args : List ℕ) (inner depth : ℕ) (p r : Option Label) where
  pub outside-match : count ≡ 0 → (a b : ℕ) → a ≡ slot_at args inner depth (get_or s (at + 1) 0) → b ≡ slot_at args inner depth (get_or s (at + 2) 0) → MatchingIs p a b r
      → OutsideOfIs s at count args inner depth p r
  outside-match z a b ea eb M = record {
    is = λ question i t calls n are N.
        let k = past-match (get_or s at 0) count z n in
        nth_mat question s at i t args inner depth calls k.0 p r a b ea eb
        (moved question s i t args calls p _ _ _ (at + 3) inner depth (omega (arith, k.1)) (omega arith) (omega arith) N) M;
  }

  pub outside_run : (count ≡ 0 → ⊥) → LeavesIs p depth count r → OutsideOfIs s at count args inner depth p r
  outside_run z L = record {
    is = λ question i t calls n are N.
        let k = past_run (get_or s at 0) count (first s at count are (omega arith)) in
        L.is question s at i t args inner calls are (moved question s i t args calls p _ _ _ (at + count) (inner + count) (depth + count) (omega (arith, k)) refl refl N);
  }
