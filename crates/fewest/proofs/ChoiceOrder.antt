-- The pairs that may be chosen ascend, and only one choice wins; "unsettled" exactly if some choice is. Assumes nothing.
use mathlib.Core.Path.{◌≡◌, refl, sym, ap, subst}
use mathlib.Core.Bool.{Bool, true, false, cond}
use mathlib.Core.List.{List, [], ◌∷◌, ◌++◌, map}
use mathlib.Core.Logic.{◌⊎◌, inl, inr}
use native.Mathlib.Omega.{arith}
use Prim.Native.Nat.{ℕ, zero, suc, ◌<◌, ◌≤◌, Ordering}
use Rattle.calculus.specs.Cond.{Pairs}
use Rattle.calculus.specs.Distinction.{keep}
use Rattle.terms.specs.Question.{pair_bytes}
use Rattle.calculus.specs.Lists.{◌∈◌, All}
use Rattle.calculus.proofs.Membership.{∈-all, ∈_either, ∈-mapped, all-++, all_map}
use Rattle.steps.proofs.ByteOrder.{Before, Says, ordered, before_irreflexive, before_trans}
use Rattle.steps.specs.Listed.{names_from}
use Rattle.steps.specs.Listing.{order}
use Rattle.field.specs.Situation.{pairs_of, all_pairs}
use Rattle.verdict.specs.Verdict.{Verdict}
use Rattle.fewest.specs.Choices.{candidate_pairs, Earlier}
use Rattle.fewest.proofs.ChoiceLaws.{Ahead, PairBefore, PairsRise, Wins}

-- All pairs ascend.
names_from_lem : (k n m : ℕ) → m ∈ names_from n k → n ≤ m
unfolding names_from
names_from_lem zero n m x' = elim x' [ ]
names_from_lem (suc k) n m (inl e) = omega (arith, e)
names_from_lem (suc k) n m (inr i) = omega (arith, names_from_lem k (suc n) m i)

names_rise : (k n : ℕ) → (b : ℕ) → b < n → All (λ m. b < m) (names_from n k)
names_rise k n b h = ∈-all (λ m. b < m) (names_from n k) (λ m i. omega (arith, names_from_lem k n m i))

rise_++ : (xs ys : Pairs) → PairsRise xs → PairsRise ys → ((p q : ℕ × ℕ) → p ∈ xs → q ∈ ys → PairBefore p q) → PairsRise (xs ++ ys)
rise_++ [] ys a b h = b
rise_++ (x ∷ xs) ys a b h =
    (all-++ (PairBefore x) xs ys a.0 (∈-all (PairBefore x) ys (λ q m. h x q (inl refl) m)), rise_++ xs ys a.1 b (λ p q m n. h p q (inr m) n))

row_rise : (a k n : ℕ) → PairsRise (map (λ b. (a, b)) (names_from n k))
unfolding names_from
row_rise a zero n = tt
row_rise a (suc k) n =
    (all_map (λ b. (a, b)) (λ m. n < m) (PairBefore (a, n)) (names_from (suc n) k) (λ m l. inr (refl, l)) (names_rise k (suc n) n (omega arith)), row_rise a k (suc n))

first_from : (k n : ℕ) (p : ℕ × ℕ) → p ∈ pairs_of (names_from n k) → n ≤ p.0
unfolding pairs_of names_from
first_from zero n p m = elim m [ ]
first_from (suc k) n p m = go (∈_either p (map (λ b. (n, b)) (names_from (suc n) k)) (pairs_of (names_from (suc n) k)) m) (first_from k (suc n) p)
  where
    go : (p ∈ map (λ b. (n, b)) (names_from (suc n) k)) ⊎ (p ∈ pairs_of (names_from (suc n) k)) → (p ∈ pairs_of (names_from (suc n) k) → suc n ≤ p.0) → n ≤ p.0
    go (inl i) r = let (b, j, e) = ∈-mapped (λ (b : ℕ). (n, b)) p (names_from (suc n) k) i in let d : p.0 ≡ n = ap (λ q. q.0) e in omega arith
    go (inr i) r = omega (arith, r i)

all_rise : (k n : ℕ) → PairsRise (pairs_of (names_from n k))
unfolding pairs_of names_from
all_rise zero n = tt
all_rise (suc k) n =
    rise_++ (map (λ b. (n, b)) (names_from (suc n) k)) (pairs_of (names_from (suc n) k)) (row_rise n k (suc n)) (all_rise k (suc n))
    (λ p q i j.
    let (b, l, e) = ∈-mapped (λ (b : ℕ). (n, b)) p (names_from (suc n) k) i in
    let d : p.0 ≡ n = ap (λ q. q.0) e in
    let h = first_from k (suc n) q j in
    inl (omega arith))

keep_all : (f : ℕ → ℕ → Bool) (S : ℕ × ℕ → Type 0) (ps : Pairs) → All S ps → All S (keep f ps)
unfolding keep
keep_all f S [] a = tt
keep_all f S (p ∷ ps) a = go (f p.0 p.1) (keep_all f S ps a.1)
  where
    go : (b : Bool) → All S (keep f ps) → All S (cond b (p ∷ keep f ps) (keep f ps))
    go true r = (a.0, r)
    go false r = r

keep_rise : (f : ℕ → ℕ → Bool) (ps : Pairs) → PairsRise ps → PairsRise (keep f ps)
unfolding keep
keep_rise f [] a = tt
keep_rise f (p ∷ ps) a = go (f p.0 p.1) (keep_rise f ps a.1)
  where
    go : (b : Bool) → PairsRise (keep f ps) → PairsRise (cond b (p ∷ keep f ps) (keep f ps))
    go true r = (keep_all f (PairBefore p) ps a.0, r)
    go false r = r

pub candidates_rise : (count : ℕ) (names : List ℕ) (apart : Pairs) → PairsRise (candidate_pairs count names apart)
unfolding candidate_pairs all_pairs
candidates_rise count names apart = keep_rise _ (pairs_of (names_from 0 count)) (all_rise count 0)

pub below_rise : (count : ℕ) → PairsRise (all_pairs count)
unfolding all_pairs
below_rise count = all_rise count 0

-- Byte order, as the definition has it.
pub ahead_earlier : (c d : Pairs) → Ahead c d → Earlier c d
unfolding Earlier
ahead_earlier c d (inl h) = inl h
ahead_earlier c d (inr (e, b)) = inr (e, go (order (pair_bytes c) (pair_bytes d)) refl (ordered (pair_bytes c) (pair_bytes d)))
  where
    go : (o : Ordering) → order (pair_bytes c) (pair_bytes d) ≡ o → Says Before (pair_bytes c) (pair_bytes d) o → o ≡ Ordering.lt
    go Ordering.lt f s = refl
    go Ordering.eq f s = absurd (before_irreflexive (pair_bytes d) (subst (λ bs. Before bs (pair_bytes d)) s b))
    go Ordering.gt f s = absurd (before_irreflexive (pair_bytes c) (before_trans (pair_bytes c) (pair_bytes d) (pair_bytes c) b s))

pub earlier_ahead : (c d : Pairs) → Earlier c d → Ahead c d
unfolding Earlier
earlier_ahead c d (inl h) = inl h
earlier_ahead c d (inr (e, f)) = inr (e, subst (Says Before (pair_bytes c) (pair_bytes d)) f (ordered (pair_bytes c) (pair_bytes d)))

-- Of two choices one is not both before and behind the other.
pub not_both : (c d : Pairs) → Ahead c d → Ahead d c → ⊥
not_both c d (inl h) (inl k) = omega arith
not_both c d (inl h) (inr k) = omega (arith, k.0)
not_both c d (inr h) (inl k) = omega (arith, h.0)
not_both c d (inr h) (inr k) = before_irreflexive (pair_bytes c) (before_trans (pair_bytes c) (pair_bytes d) (pair_bytes c) h.1 k.1)

module _ (verdict : Pairs → Verdict) (ps : Pairs) (rise : PairsRise ps) where
  pub wins_once : (c d : Pairs) → Wins verdict ps rise c → Wins verdict ps rise d → c ≡ d
  wins_once c d w v = go (w.fewest d v.choice v.same_verdict) (v.fewest c w.choice w.same_verdict)
    where
      go : (d ≡ c) ⊎ Ahead c d → (c ≡ d) ⊎ Ahead d c → c ≡ d
      go (inl e) r = sym e
      go (inr e) (inl f) = f
      go (inr e) (inr f) = absurd (not_both c d e f)
