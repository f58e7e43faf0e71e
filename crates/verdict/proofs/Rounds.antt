-- Striking out, in the abstract: what is left after the rounds is stable, and it is the largest set of rows in which every demand is met. Whether a
-- situation is among others is decided by its bytes; `Good` are the situations that their bytes determine.
use mathlib.Core.Path.{◌≡◌, refl, sym, ◌∙◌, ap, subst}
use mathlib.Core.Bool.{Bool, true, false, cond, ◌||◌, or-true}
use mathlib.Core.List.{List, [], ◌∷◌, map}
use mathlib.Core.Logic.{inl, inr}
use Prim.Native.Nat.{ℕ, zero, suc, ◌≤◌}
use native.Mathlib.Omega.{arith}
use lib.ListN.{length}
use lib.Dec.{eqb}
use borrow.Author.Tests.{eqb-true, eqb-false}
use Rattle.terms.proofs.Answers.{both_true}
use Rattle.calculus.specs.Lists.{◌∈◌, Distinct}
use Rattle.calculus.proofs.Membership.{∈-map, ∈-all}
use Rattle.field.specs.Situation.{Situation, same_situation}
use Rattle.field.specs.Successors.{select}
use Rattle.field.specs.Exploration.{found, Row}
use Rattle.field.proofs.Selections.{∈-select, select-∈}
use Rattle.field.proofs.Members.{map-∈}
use Rattle.field.proofs.Unseen.{∈-found, found-∈}
use Rattle.field.proofs.Run.{selves}
use Rattle.verdict.specs.Verdict.{all_found, answered, all_answered, strike, rounds}

pub true_not_false {ℓ} : {C : Type ℓ} {b : Bool} → b ≡ true → b ≡ false → C
true_not_false e f = let z : ◌≡◌ {A = ℕ} 0 1 = cc in absurd (omega arith)

module _ {A : Type 0} (f : A → Bool) where
  pub select_shorter : (xs : List A) → length (select f xs) ≤ length xs
  unfolding select
  select_shorter [] = omega arith
  select_shorter (y ∷ xs) = go (f y) (select_shorter xs)
    where
      go : (t : Bool) → length (select f xs) ≤ length xs → length (cond t (y ∷ select f xs) (select f xs)) ≤ suc (length xs)
      go true h = omega arith
      go false h = omega arith

  -- a selection that leaves none out
  pub select-whole : (xs : List A) → length (select f xs) ≡ length xs → (x : A) → x ∈ xs → f x ≡ true
  unfolding select
  select-whole [] e x m = elim m [ ]
  select-whole (y ∷ xs) e x m = go (f y) refl e m (select-whole xs)
    where
      go : (t : Bool) → f y ≡ t → length (cond t (y ∷ select f xs) (select f xs)) ≡ suc (length xs) → x ∈ (y ∷ xs)
          → (length (select f xs) ≡ length xs → (x : A) → x ∈ xs → f x ≡ true) → f x ≡ true
      go true h k (inl d) r = ap f d ∙ h
      go true h k (inr n) r = r (omega arith) x n
      go false h k n r = absurd (omega (arith, select_shorter xs))

-- the row of a situation
pub of_selves : (s : Situation) (rs : List Row) → s ∈ selves rs → (r : Row) × (r ∈ rs) × (s ≡ r.self)
of_selves s rs m = map-∈ (λ (r : Row). r.self) s rs m

pub self_in : (r : Row) (rs : List Row) → r ∈ rs → r.self ∈ selves rs
self_in r rs m = ∈-map (λ r. r.self) r rs m

-- a row is found by its situation, if the rows' situations are distinct
pub same_row : (rs : List Row) → Distinct (selves rs) → (q r : Row) → q ∈ rs → r ∈ rs → q.self ≡ r.self → q ≡ r
same_row [] d q r x4 _ k = elim x4 [ ]
same_row (t ∷ rs) d q r (inl e) (inl f) k = e ∙ sym f
same_row (t ∷ rs) d q r (inl e) (inr m) k =
    absurd (d.0 (subst (λ s. s ∈ selves rs) (sym k ∙ ap (λ r. r.self) e) (self_in r rs m)))
same_row (t ∷ rs) d q r (inr n) (inl f) k = absurd (d.0 (subst (λ s. s ∈ selves rs) (k ∙ ap (λ r. r.self) f) (self_in q rs n)))
same_row (t ∷ rs) d q r (inr n) (inr m) k = same_row rs d.1 q r n m k

-- a demand is met: an answer all of whose situations have X
pub record Met {ℓ} (X : Situation → Type ℓ) (m : List (List Situation)) : Type ℓ where
  pub answer : List Situation
  pub member : answer ∈ m
  pub all : (t : Situation) → t ∈ answer → X t

-- X holds of some member of m
pub record Some {ℓ} (X : Situation → Type ℓ) (m : List Situation) : Type ℓ where
  pub there : Situation
  pub member : there ∈ m
  pub holds : X there

-- answers that lead to one situation each
abbrev pub single : Situation → List Situation
single t = t ∷ []

pub some-met {ℓ} : {X : Situation → Type ℓ} {m : List Situation} → Some X m → Met X (map single m)
some-met {X = X} {m = m} o = record { answer = single o.there; member = ∈-map single o.there m o.member; all = only }
  where
    only : (t : Situation) → t ∈ single o.there → X t
    only t (inr x') = elim x' [ ]
    only t (inl e) = subst X (sym e) o.holds

pub met_some {ℓ} : {X : Situation → Type ℓ} {m : List Situation} → Met X (map single m) → Some X m
met_some {X = X} {m = m} o =
    let (t, i, e) = map-∈ single o.answer m o.member in
    record { there = t; member = i; holds = o.all t (subst (λ l. t ∈ l) (sym e) (inl refl)) }

-- each demand is met
pub record EachSome {ℓ} (X : Situation → Type ℓ) (ms : List (List (List Situation))) : Type ℓ where
  pub some : (m : List (List Situation)) → m ∈ ms → Met X m

pub each_imp {ℓ ℓ'} : {X : Situation → Type ℓ} {Y : Situation → Type ℓ'} {ms : List (List (List Situation))} → ((s : Situation) → X s → Y s) → EachSome X ms → EachSome Y ms
each_imp h a = record {
  some = λ m k. record { answer = (a.some m k).answer; member = (a.some m k).member; all = λ s i. h s ((a.some m k).all s i) };
}

all_found_lem : (left m : List Situation) → ((s : Situation) → s ∈ m → s ∈ left) → all_found left m ≡ true
unfolding all_found
all_found_lem left [] h = refl
all_found_lem left (s ∷ m) h = rw (∈-found left s (h s (inl refl)), all_found_lem left m (λ t i. h t (inr i))) refl

some-answered : (left : List Situation) (m : List (List Situation)) → (l : List Situation) → l ∈ m → ((s : Situation) → s ∈ l → s ∈ left) → answered left m ≡ true
unfolding answered
some-answered left [] l x'' k = elim x'' [ ]
some-answered left (t ∷ m) l (inl e) k = rw (all_found_lem left t (λ s i. k s (subst (λ l. s ∈ l) (sym e) i)))
some-answered left (t ∷ m) l (inr n) k = rw (some-answered left m l n k, or-true)

pub each-answered : (left : List Situation) (ms : List (List (List Situation))) → EachSome (λ s. s ∈ left) ms → all_answered left ms ≡ true
unfolding all_answered
each-answered left [] a = refl
each-answered left (m ∷ ms) a =
    let o = a.some m (inl refl) in
    rw (some-answered left m o.answer o.member o.all, each-answered left ms (record { some = λ m k. a.some m (inr k) }))

module _ (Good : Situation → Type 0) (decides : (s t : Situation) → Good s → Good t → same_situation s t ≡ true → s ≡ t) where
  pub member-found : (left : List Situation) → ((s : Situation) → s ∈ left → Good s) → (s : Situation) → Good s → found left s ≡ true → s ∈ left
  member-found left g s h e = found-∈ Good decides left s (∈-all Good left g) h e

  found_all : (left m : List Situation) → ((s : Situation) → s ∈ left → Good s) → ((s : Situation) → s ∈ m → Good s)
      → all_found left m ≡ true → (s : Situation) → s ∈ m → s ∈ left
  unfolding all_found
  found_all left [] g h e s x4 = elim x4 [ ]
  found_all left (t ∷ m) g h e s (inl k) =
      subst (λ s. s ∈ left) (sym k) (member-found left g t (h t (inl refl)) (both_true (found left t) (all_found left m) e).0)
  found_all left (t ∷ m) g h e s (inr k) = found_all left m g (λ s n. h s (inr n)) (both_true (found left t) (all_found left m) e).1 s k

  answered-some : (left : List Situation) (m : List (List Situation)) → ((s : Situation) → s ∈ left → Good s)
      → ((l : List Situation) → l ∈ m → (s : Situation) → s ∈ l → Good s) → answered left m ≡ true → Met (λ s. s ∈ left) m
  unfolding answered
  answered-some left [] g h e = true_not_false e refl
  answered-some left (t ∷ m) g h e = go (all_found left t) refl e (answered-some left m g (λ l n. h l (inr n)))
    where
      go : (b : Bool) → all_found left t ≡ b → (b || answered left m) ≡ true → (answered left m ≡ true → Met (λ s. s ∈ left) m)
          → Met (λ s. s ∈ left) (t ∷ m)
      go true k e r = record { answer = t; member = inl refl; all = found_all left t g (h t (inl refl)) k }
      go false k e r = let o = r e in record { answer = o.answer; member = inr o.member; all = o.all }

  pub answered-each : (left : List Situation) (ms : List (List (List Situation))) → ((s : Situation) → s ∈ left → Good s)
      → ((m : List (List Situation)) → m ∈ ms → (l : List Situation) → l ∈ m → (s : Situation) → s ∈ l → Good s) → all_answered left ms ≡ true → EachSome (λ s. s ∈ left) ms
  unfolding all_answered
  answered-each left ms g h e = record { some = go ms h e }
    where
      go : (ms : List (List (List Situation))) → ((m : List (List Situation)) → m ∈ ms → (l : List Situation) → l ∈ m → (s : Situation) → s ∈ l → Good s) → all_answered left ms ≡ true
          → (m : List (List Situation)) → m ∈ ms → Met (λ s. s ∈ left) m
      go [] h e m x3 = elim x3 [ ]
      go (l ∷ ms) h e m (inl k) =
          subst (λ m. Met (λ s. s ∈ left) m) (sym k)
          (answered-some left l g (h l (inl refl)) (both_true (answered left l) (all_answered left ms) e).0)
      go (l ∷ ms) h e m (inr k) = go ms (λ n i. h n (inr i)) (both_true (answered left l) (all_answered left ms) e).1 m k

-- What each row demands.
module _ (d : Row → List (List (List Situation))) where
  -- every row's demands are met by what is left
  pub record Stable (rs : List Row) : Type 0 where
    pub answers : (r : Row) → r ∈ rs → all_answered (selves rs) (d r) ≡ true

  pub of_strike : (r : Row) (rs : List Row) → r ∈ strike d rs → (r ∈ rs) × (all_answered (selves rs) (d r) ≡ true)
  unfolding strike
  of_strike r rs m = select-∈ (λ r. all_answered (selves rs) (d r)) r rs m

  pub strike_keeps : (r : Row) (rs : List Row) → r ∈ rs → all_answered (selves rs) (d r) ≡ true → r ∈ strike d rs
  unfolding strike
  strike_keeps r rs m e = ∈-select (λ r. all_answered (selves rs) (d r)) r rs m e

  -- A round that strikes out none finds a stable list; any other shortens it.
  whole_stable : (rs : List Row) → length (strike d rs) ≡ length rs → Stable rs
  unfolding strike
  whole_stable rs e = record { answers = λ r m. select-whole (λ r. all_answered (selves rs) (d r)) rs e r m }

  strike_shorter : (rs : List Row) → length (strike d rs) ≤ length rs
  unfolding strike
  strike_shorter rs = select_shorter (λ r. all_answered (selves rs) (d r)) rs

  -- as many rounds as there are rows are enough
  pub rounds_stable : (n : ℕ) (rs : List Row) → length rs ≤ n → Stable (rounds d n rs)
  unfolding rounds
  rounds_stable zero [] h = record { answers = λ r m. absurd m }
  rounds_stable zero (r ∷ rs) h = absurd (omega arith)
  rounds_stable (suc n) rs h = go (eqb (length (strike d rs)) (length rs)) refl (rounds_stable n (strike d rs))
    where
      go : (t : Bool) → eqb (length (strike d rs)) (length rs) ≡ t → (length (strike d rs) ≤ n → Stable (rounds d n (strike d rs)))
          → Stable (cond t rs (rounds d n (strike d rs)))
      go true e r = whole_stable rs (eqb-true (length (strike d rs)) (length rs) e)
      go false e r = r (omega (arith, strike_shorter rs, eqb-false (length (strike d rs)) (length rs) e))

  pub of_rounds : (n : ℕ) (r : Row) (rs : List Row) → r ∈ rounds d n rs → r ∈ rs
  unfolding rounds
  of_rounds zero r rs m = m
  of_rounds (suc n) r rs m = go (eqb (length (strike d rs)) (length rs)) m (of_rounds n r (strike d rs))
    where
      go : (t : Bool) → r ∈ cond t rs (rounds d n (strike d rs)) → (r ∈ rounds d n (strike d rs) → r ∈ strike d rs) → r ∈ rs
      go true m k = m
      go false m k = (of_strike r rs (k m)).0

  -- the rows that are left after all rounds
  unfoldable pub survivors : List Row → List Row
  survivors rs = rounds d (length rs) rs

  pub survivor_row : (rs : List Row) (r : Row) → r ∈ survivors rs → r ∈ rs
  unfolding survivors
  survivor_row rs r m = of_rounds (length rs) r rs m

  pub survivor_in : (rs : List Row) (s : Situation) → s ∈ selves (survivors rs) → s ∈ selves rs
  survivor_in rs s m =
      let (r, k, e) = of_selves s (survivors rs) m in
      subst (λ s. s ∈ selves rs) (sym e) (self_in r rs (survivor_row rs r k))

  -- a set of situations in which every demand of a row is met
  pub record Closed {ℓ} (X : Situation → Type ℓ) (rs : List Row) : Type ℓ where
    pub answers : (r : Row) → r ∈ rs → X r.self → EachSome (λ s. X s × (s ∈ selves rs)) (d r)

  -- the rows' situations and those that are demanded are good
  pub record GoodRows (Good : Situation → Type 0) (rs : List Row) : Type 0 where
    pub self : (r : Row) → r ∈ rs → Good r.self
    pub demands : (r : Row) → r ∈ rs → (m : List (List Situation)) → m ∈ d r → (l : List Situation) → l ∈ m → (s : Situation) → s ∈ l → Good s

  -- the largest set: what is closed is never struck out
  module _ {ℓ} (X : Situation → Type ℓ) where
    stays : (rs : List Row) → Closed X rs → (r : Row) → r ∈ rs → X r.self → r ∈ strike d rs
    stays rs c r m x = strike_keeps r rs m (each-answered (selves rs) (d r) (each_imp (λ s h. h.1) (c.answers r m x)))

    closed_strike : (rs : List Row) → Closed X rs → Closed X (strike d rs)
    closed_strike rs c = record { answers = λ r m x. each_imp (λ s h. (h.0, left s h.0 h.1)) (c.answers r (of_strike r rs m).0 x) }
      where
        left : (s : Situation) → X s → s ∈ selves rs → s ∈ selves (strike d rs)
        left s x m =
            let (r, k, e) = of_selves s rs m in
            subst (λ s. s ∈ selves (strike d rs)) (sym e) (self_in r (strike d rs) (stays rs c r k (subst X e x)))

    pub rounds-keep : (n : ℕ) (rs : List Row) → Closed X rs → (r : Row) → r ∈ rs → X r.self → r ∈ rounds d n rs
    unfolding rounds
    rounds-keep zero rs c r m x = m
    rounds-keep (suc n) rs c r m x =
        go (eqb (length (strike d rs)) (length rs)) (rounds-keep n (strike d rs) (closed_strike rs c) r (stays rs c r m x) x)
      where
        go : (t : Bool) → r ∈ rounds d n (strike d rs) → r ∈ cond t rs (rounds d n (strike d rs))
        go true k = m
        go false k = k

    pub closed_survives : (rs : List Row) → Closed X rs → (s : Situation) → s ∈ selves rs → X s → s ∈ selves (survivors rs)
    unfolding survivors
    closed_survives rs c s m x =
        let (r, k, e) = of_selves s rs m in
        subst (λ s. s ∈ selves (rounds d (length rs) rs)) (sym e) (self_in r (rounds d (length rs) rs) (rounds-keep (length rs) rs c r k (subst X e x)))

  module _ (Good : Situation → Type 0) (decides : (s t : Situation) → Good s → Good t → same_situation s t ≡ true → s ≡ t) where
    module _ (rs : List Row) (good : GoodRows Good rs) where
      pub selves_good : (s : Situation) → s ∈ selves rs → Good s
      selves_good s m = let (r, k, e) = of_selves s rs m in subst Good (sym e) (good.self r k)

      -- what is left is stable
      pub survivors-answer : (r : Row) → r ∈ survivors rs → EachSome (λ s. s ∈ selves (survivors rs)) (d r)
      unfolding survivors
      survivors-answer r m =
          answered-each Good decides (selves (rounds d (length rs) rs)) (d r) (λ s k. selves_good s (survivor_in rs s k))
          (good.demands r (survivor_row rs r m)) ((rounds_stable (length rs) rs (omega arith)).answers r m)

      pub found_survives : (s : Situation) → Good s → found (selves (survivors rs)) s ≡ true → s ∈ selves (survivors rs)
      found_survives s g e = member-found Good decides (selves (survivors rs)) (λ t k. selves_good t (survivor_in rs t k)) s g e
