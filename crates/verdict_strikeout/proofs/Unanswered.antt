-- What exploration strikes out: situations with a permitted step whose answers, if any, are all struck out and come before them. They may be struck out
-- one after the other, and where there are none, all are answered. Assumes nothing.
use mathlib.Core.Bool.{Bool, true, false, cond}
use mathlib.Core.List.{List, [], ◌∷◌}
use mathlib.Core.Logic.{◌⊎◌}
use mathlib.Core.Path.{◌≡◌, refl, sym, ap, ◌∙◌, subst}
use native.Mathlib.Decide.{ℕ_discrete}
use native.Mathlib.Omega.{arith}
use Prim.Native.Nat.{ℕ, zero, suc, ◌<◌, ◌≤◌}
use lib.Dec.{eqb}
use lib.ListN.{length, get_or, set, replicate, length-map, length-set, length-replicate, get_or-replicate, get_or-map}
use lib.Seq.{get_or-set_same, get_or-set_other}
use borrow.Author.Tests.{eq-eqb, ne_eqb}
use Rattle.calculus.specs.Lists.{◌∈◌, All}
use Rattle.calculus.proofs.Membership.{all-∈}
use Rattle.field.specs.Exploration.{found, Row}
use Rattle.field.specs.Situation.{Situation, same_situation}
use Rattle.field.proofs.Members.{get_d_∈, get_d_within}
use Rattle.field.proofs.Run.{selves}
use Rattle.verdict_answers.specs.Striking.{living}
use Rattle.verdict_strikeout.proofs.AnyOrder.{StrikesTo, all_left, one_struck}
use Rattle.verdict_answers.proofs.Living.{living-at, struck_either, struck_within, all-living}
use Rattle.verdict.specs.Verdict.{all_answered}
use Rattle.verdict.proofs.Rounds.{member-found}

-- Flags that are 0 at the same places leave the same.
living-alike : (fs gs : List ℕ) (ss : List Situation) → length fs ≡ length gs → ((i : ℕ) → i < length fs → eqb (get_or fs i 0) 0 ≡ eqb (get_or gs i 0) 0)
    → living fs ss ≡ living gs ss
unfolding living
living-alike [] [] ss n h = refl
living-alike [] (g ∷ gs) ss n h = absurd (omega arith)
living-alike (f ∷ fs) [] ss n h = absurd (omega arith)
living-alike (f ∷ fs) (g ∷ gs) [] n h = refl
living-alike (f ∷ fs) (g ∷ gs) (s ∷ ss) n h = rw (h 0 (omega arith), living-alike fs gs ss (omega arith) (λ i l. h (suc i) (omega arith)))

-- The rows with a flag each; `why` is what exploration promises. A demand is not answered where nothing that a move leads to is left.
module _ (d : Row → List (List (List Situation))) (rs : List Row)
    (unmet : (left : List Situation) (r : Row) → r ∈ rs → (w : List Situation) → w ∈ r.wants → ((t : Situation) → t ∈ w → found left t ≡ false) → all_answered left (d r) ≡ false)
    (fs : List ℕ) (number : length fs ≡ length rs)
    (exact : (s t : Situation) → s ∈ selves rs → t ∈ selves rs → same_situation s t ≡ true → s ≡ t)
    (once : (i j : ℕ) (d : Situation) → i < length rs → j < length rs → get_or (selves rs) i d ≡ get_or (selves rs) j d → i ≡ j)
    (why : (i : ℕ) (d : Row) → i < length rs → (get_or fs i 0 ≡ 0 → ⊥)
    → (w : List Situation) × (w ∈ (get_or rs i d).wants) × All (λ t. (j : ℕ) × (j < i) × ((d : Row) → (get_or rs j d).self ≡ t) × (get_or fs j 0 ≡ 0 → ⊥)) w) where
  -- the first k of them struck out, where their flags say so
  up_to : ℕ → List ℕ
  up_to zero = replicate (length rs) 0
  up_to (suc k) = cond (eqb (get_or fs k 0) 0) (up_to k) (set (up_to k) k 1)

  kept : (k : ℕ) → get_or fs k 0 ≡ 0 → up_to (suc k) ≡ up_to k
  unfolding up_to
  kept k e = ap (λ b. cond b (up_to k) (set (up_to k) k 1)) (eq-eqb (get_or fs k 0) 0 e)

  gone : (k : ℕ) → (get_or fs k 0 ≡ 0 → ⊥) → up_to (suc k) ≡ set (up_to k) k 1
  unfolding up_to
  gone k e = ap (λ b. cond b (up_to k) (set (up_to k) k 1)) (ne_eqb (get_or fs k 0) 0 e)

  length_to : (k : ℕ) → length (up_to k) ≡ length rs
  unfolding up_to
  length_to zero = length-replicate {A = ℕ} (length rs) 0
  length_to (suc k) = go (ℕ_discrete (get_or fs k 0) 0) (length_to k)
    where
      go : Dec (get_or fs k 0 ≡ 0) → length (up_to k) ≡ length rs → length (up_to (suc k)) ≡ length rs
      go (yes e) n = ap length (kept k e) ∙ n
      go (no e) n = ap length (gone k e) ∙ length-set (up_to k) k 1 ∙ n

  zero_to : (k i : ℕ) → i < length rs → get_or fs i 0 ≡ 0 → get_or (up_to k) i 0 ≡ 0
  unfolding up_to
  zero_to zero i h z = get_or-replicate {A = ℕ} (length rs) i 0 0 h
  zero_to (suc k) i h z = go (ℕ_discrete (get_or fs k 0) 0) (zero_to k i h z)
    where
      go : Dec (get_or fs k 0 ≡ 0) → get_or (up_to k) i 0 ≡ 0 → get_or (up_to (suc k)) i 0 ≡ 0
      go (yes e) n = ap (λ l. get_or l i 0) (kept k e) ∙ n
      go (no e) n = ap (λ l. get_or l i 0) (gone k e) ∙ get_or-set_other (up_to k) k i 1 0 (λ d. e (ap (λ j. get_or fs j 0) (sym d) ∙ z)) ∙ n

  one_to : (k i : ℕ) → i < k → k ≤ length rs → (get_or fs i 0 ≡ 0 → ⊥) → get_or (up_to k) i 0 ≡ 1
  one_to zero i h l z = absurd (omega arith)
  one_to (suc k) i h l z = go (ℕ_discrete i k) (ℕ_discrete (get_or fs k 0) 0) (λ m. one_to k i m (omega arith) z)
    where
      go : Dec (i ≡ k) → Dec (get_or fs k 0 ≡ 0) → (i < k → get_or (up_to k) i 0 ≡ 1) → get_or (up_to (suc k)) i 0 ≡ 1
      go (yes d) (yes e) n = absurd (z (ap (λ j. get_or fs j 0) d ∙ e))
      go (yes d) (no e) n =
          ap (λ j. get_or (up_to (suc k)) j 0) d ∙ ap (λ l. get_or l k 0) (gone k e) ∙ get_or-set_same (up_to k) k 1 0 (omega (arith, length_to k))
      go (no d) (yes e) n = ap (λ l. get_or l i 0) (kept k e) ∙ n (omega arith)
      go (no d) (no e) n = ap (λ l. get_or l i 0) (gone k e) ∙ get_or-set_other (up_to k) k i 1 0 d ∙ n (omega arith)

  abbrev left_to : ℕ → List Situation
  left_to k = living (up_to k) (selves rs)

  self_at : (j : ℕ) (d : Row) → get_or (selves rs) j d.self ≡ (get_or rs j d).self
  self_at j d = get_or-map (λ (r : Row). r.self) rs j d

  -- one struck out before is not left
  not_left : (k j : ℕ) → j < k → k ≤ length rs → (get_or fs j 0 ≡ 0 → ⊥) → (t : Situation) → ((d : Row) → (get_or rs j d).self ≡ t)
      → found (left_to k) t ≡ false
  not_left k j l h z t is = go (found (left_to k) t) refl
    where
      member : (u : Situation) → u ∈ left_to k → u ∈ selves rs
      member u m = let x = living-at (up_to k) (selves rs) u m in subst (λ v. v ∈ selves rs) x.is (get_d_∈ (selves rs) x.number u x.within)

      row : Row
      row = record { self = t; wants = [] }

      here : get_or (selves rs) j t ≡ t
      here = self_at j row ∙ is row

      go : (b : Bool) → found (left_to k) t ≡ b → found (left_to k) t ≡ false
      go false e = e
      go true e =
          let own : t ∈ selves rs = subst (λ v. v ∈ selves rs) here (get_d_∈ (selves rs) j t (omega (arith, length-map rs (λ (r : Row). r.self)))) in
          let x = living-at (up_to k) (selves rs) t (member-found (λ s. s ∈ selves rs) exact (left_to k) member t own e) in
          let same : x.number ≡ j = once x.number j t (omega (arith, x.below, length_to k)) (omega arith) (x.is ∙ sym here) in
          let one : get_or (up_to k) x.number 0 ≡ 1 = ap (λ i. get_or (up_to k) i 0) same ∙ one_to k j l h z in
          absurd (omega (arith, one, get_d_within (up_to k) x.number 0 1 x.below, x.flag))

  struck_to : (k : ℕ) → k ≤ length rs → StrikesTo d rs (left_to k)
  unfolding up_to
  struck_to zero h = subst (StrikesTo d rs) (sym (ap (λ n. living (replicate n 0) (selves rs)) (sym (length-map rs (λ (r : Row). r.self))) ∙ all-living (selves rs))) all_left
  struck_to (suc k) h = go (ℕ_discrete (get_or fs k 0) 0) (struck_to k (omega arith))
    where
      blank : Row
      blank = some rs (omega arith)
        where
          some : (qs : List Row) → 0 < length qs → Row
          some [] l = absurd (omega arith)
          some (q ∷ qs) l = q

      r : Row
      r = get_or rs k blank

      fails : (get_or fs k 0 ≡ 0 → ⊥) → all_answered (left_to k) (d r) ≡ false
      fails e =
          let (w, i, a) = why k blank (omega arith) e in
          unmet (left_to k) r (get_d_∈ rs k blank (omega arith)) w i (λ t m. let (j, l, is, z) = all-∈ _ w a t m in not_left k j l (omega arith) z t is)

      go : Dec (get_or fs k 0 ≡ 0) → StrikesTo d rs (left_to k) → StrikesTo d rs (left_to (suc k))
      go (yes e) before = subst (λ l. StrikesTo d rs (living l (selves rs))) (sym (kept k e)) before
      go (no e) before =
          subst (λ l. StrikesTo d rs (living l (selves rs))) (sym (gone k e))
          (one_struck before r (get_d_∈ rs k blank (omega arith)) (fails e)
          (λ s m. subst (λ u. (s ≡ u) ⊎ (s ∈ living (set (up_to k) k 1) (selves rs))) (self_at k blank)
          (struck_either (up_to k) (selves rs) k blank.self s m))
          (λ s m. struck_within (up_to k) (selves rs) k s m))

  pub strikes_flagged : StrikesTo d rs (living fs (selves rs))
  strikes_flagged =
      subst (StrikesTo d rs)
      (living-alike (up_to (length rs)) fs (selves rs) (length_to (length rs) ∙ sym number) (λ i h. alike i (omega (arith, length_to (length rs))) (ℕ_discrete (get_or fs i 0) 0)))
      (struck_to (length rs) (omega arith))
    where
      alike : (i : ℕ) → i < length rs → Dec (get_or fs i 0 ≡ 0) → eqb (get_or (up_to (length rs)) i 0) 0 ≡ eqb (get_or fs i 0) 0
      alike i h (yes e) = rw (zero_to (length rs) i h e, e)
      alike i h (no e) = rw (one_to (length rs) i h (omega arith) e) (sym (ne_eqb (get_or fs i 0) 0 e))
