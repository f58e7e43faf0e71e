-- The choice that is found has the fewest pairs of those that give "same", and of these it comes first in byte order; "none" exactly if every choice
-- gives "different". Assumes nothing.
use mathlib.Core.Path.{◌≡◌, refl, sym, ◌∙◌, ap, subst}
use mathlib.Core.Bool.{Bool, true, false, cond}
use mathlib.Core.List.{List, [], ◌∷◌, ◌++◌, map}
use mathlib.Core.Logic.{◌⊎◌, inl, inr, ◌↔◌}
use native.Mathlib.Decide.{ℕ_discrete}
use native.Mathlib.Omega.{arith}
use Prim.Native.Nat.{ℕ, zero, suc, ◌+◌, ◌<◌, ◌≤◌}
use lib.ListN.{length}
use Rattle.calculus.specs.Cond.{Pairs}
use Rattle.terms.specs.Question.{pair_bytes}
use Rattle.calculus.specs.Lists.{◌∈◌, All}
use Rattle.calculus.proofs.Membership.{∈-left, ∈_right, ∈_either, ∈-map, ∈-mapped, ∈-all, all-∈, all-++, all_map}
use Rattle.steps.proofs.ByteOrder.{Before}
use Rattle.verdict.specs.Verdict.{Verdict, unsettled, same, different}
use Rattle.fewest.specs.Choices.{Choice, empty, take_it, leave_it, choices, choices_from, all_choices}
use Rattle.fewest.specs.Fewest.{undecided, none, chosen, is_unsettled, is_same, first_of, some, fewest_by}

none-chosen : (ps : Pairs) → Choice [] ps
none-chosen [] = empty
none-chosen (p ∷ ps) = leave_it (none-chosen ps)

choice_length : {c ps : Pairs} → Choice c ps → length c ≤ length ps
choice_length empty = omega arith
choice_length (take_it s) = omega (arith, choice_length s)
choice_length (leave_it s) = omega (arith, choice_length s)

-- Every choice of k pairs stands in the list, and nothing else does.
pub choice_stands : {c ps : Pairs} → Choice c ps → c ∈ choices ps (length c)
unfolding choices
choice_stands empty = inl refl
choice_stands (take_it {p = p} {c = c} {ps = ps} s) = ∈-left (p ∷ c) (map (p ∷◌) (choices ps (length c))) (choices ps (suc (length c))) (∈-map (p ∷◌) c (choices ps (length c)) (choice_stands s))
choice_stands (leave_it {p = p} {c = []} {ps = ps} s) = inl refl
choice_stands (leave_it {p = p} {c = q ∷ c} {ps = ps} s) =
    ∈_right (q ∷ c) (map (p ∷◌) (choices ps (length c))) (choices ps (suc (length c))) (choice_stands s)

pub stands_choice : (ps : Pairs) (k : ℕ) (c : Pairs) → c ∈ choices ps k → Choice c ps × (length c ≡ k)
unfolding choices
stands_choice ps zero c (inr x'') = elim x'' [ ]
stands_choice ps zero c (inl e) = (subst (λ d. Choice d ps) (sym e) (none-chosen ps), ap length e)
stands_choice [] (suc k) c m = absurd m
stands_choice (p ∷ ps) (suc k) c m =
    go (∈_either c (map (p ∷◌) (choices ps k)) (choices ps (suc k)) m) (stands_choice ps k) (stands_choice ps (suc k))
  where
    go : (c ∈ map (p ∷◌) (choices ps k)) ⊎ (c ∈ choices ps (suc k)) → ((c : Pairs) → c ∈ choices ps k → Choice c ps × (length c ≡ k))
        → ((c : Pairs) → c ∈ choices ps (suc k) → Choice c ps × (length c ≡ suc k)) → Choice c (p ∷ ps) × (length c ≡ suc k)
    go (inl n) r u =
        let (d, i, e) = ∈-mapped (p ∷◌) c (choices ps k) n in
        let (s, l) = r d i in
        (subst (λ d. Choice d (p ∷ ps)) (sym e) (take_it s), ap length e ∙ ap suc l)
    go (inr n) r u = let (s, l) = u c n in (leave_it s, l)

-- The first that passes.
pub record First (f : Pairs → Bool) (cs : List Pairs) (c : Pairs) : Type 0 where
  pub before : List Pairs
  pub behind : List Pairs
  pub list : cs ≡ before ++ (c ∷ behind)
  pub passes : f c ≡ true
  pub none_before : All (λ d. f d ≡ false) before

first_of_lem : (f : Pairs → Bool) (cs : List Pairs) (c : Pairs) → first_of f cs ≡ chosen c → First f cs c
unfolding first_of
first_of_lem f [] c e = let z : ◌≡◌ {A = ℕ} 0 1 = cc in absurd (omega arith)
first_of_lem f (d ∷ cs) c e = go (f d) refl e (first_of_lem f cs c)
  where
    go : (b : Bool) → f d ≡ b → cond b (chosen d) (first_of f cs) ≡ chosen c → (first_of f cs ≡ chosen c → First f cs c) → First f (d ∷ cs) c
    go true h e r = let i : d ≡ c = cc in record { before = []; behind = cs; list = ap (◌∷ cs) i; passes = ap f (sym i) ∙ h; none_before = tt }
    go false h e r =
        let i = r e in
        record { before = d ∷ i.before; behind = i.behind; list = ap (d ∷◌) i.list; passes = i.passes; none_before = (h, i.none_before) }

first-none : (f : Pairs → Bool) (cs : List Pairs) → first_of f cs ≡ none → (c : Pairs) → c ∈ cs → f c ≡ false
unfolding first_of
first-none f [] e c m = elim m [ ]
first-none f (d ∷ cs) e c m = go (f d) refl e m (first-none f cs)
  where
    go : (b : Bool) → f d ≡ b → cond b (chosen d) (first_of f cs) ≡ none → c ∈ (d ∷ cs) → (first_of f cs ≡ none → (c : Pairs) → c ∈ cs → f c ≡ false) → f c ≡ false
    go true h e m r = let z : ◌≡◌ {A = ℕ} 0 1 = cc in absurd (omega arith)
    go false h e (inl i) r = ap f i ∙ h
    go false h e (inr n) r = r e c n

some-none : (f : Pairs → Bool) (cs : List Pairs) → some f cs ≡ false → (c : Pairs) → c ∈ cs → f c ≡ false
unfolding some
some-none f [] e c m = elim m [ ]
some-none f (d ∷ cs) e c m = go (f d) refl e m (some-none f cs)
  where
    go : (b : Bool) → f d ≡ b → cond b true (some f cs) ≡ false → c ∈ (d ∷ cs) → (some f cs ≡ false → (c : Pairs) → c ∈ cs → f c ≡ false) → f c ≡ false
    go true h e m r = let z : ◌≡◌ {A = ℕ} 0 1 = cc in absurd (omega arith)
    go false h e (inl i) r = ap f i ∙ h
    go false h e (inr n) r = r e c n

some-passes : (f : Pairs → Bool) (cs : List Pairs) → some f cs ≡ true → (c : Pairs) × (c ∈ cs) × (f c ≡ true)
unfolding some
some-passes f [] e = let z : ◌≡◌ {A = ℕ} 0 1 = cc in absurd (omega arith)
some-passes f (d ∷ cs) e = go (f d) refl e (some-passes f cs)
  where
    go : (b : Bool) → f d ≡ b → cond b true (some f cs) ≡ true → (some f cs ≡ true → (c : Pairs) × (c ∈ cs) × (f c ≡ true))
        → (c : Pairs) × (c ∈ (d ∷ cs)) × (f c ≡ true)
    go true h e r = (d, inl refl, h)
    go false h e r = let (c, m, t) = r e in (c, inr m, t)

pub first-decided : (f : Pairs → Bool) (cs : List Pairs) → first_of f cs ≡ undecided → ⊥
unfolding first_of
first-decided f [] e = let z : ◌≡◌ {A = ℕ} 0 1 = cc in absurd (omega arith)
first-decided f (d ∷ cs) e = go (f d) e (first-decided f cs)
  where
    go : (b : Bool) → cond b (chosen d) (first_of f cs) ≡ undecided → (first_of f cs ≡ undecided → ⊥) → ⊥
    go true e r = let z : ◌≡◌ {A = ℕ} 0 1 = cc in absurd (omega arith)
    go false e r = r e

pub settled_not : (v : Verdict) → is_unsettled v ≡ true → v ≡ unsettled
unfolding is_unsettled
settled_not unsettled e = refl
settled_not (same n) e = let z : ◌≡◌ {A = ℕ} 0 1 = cc in absurd (omega arith)
settled_not (different n) e = let z : ◌≡◌ {A = ℕ} 0 1 = cc in absurd (omega arith)

-- Smaller choices come before larger ones; those of one size stand in ascending byte order.
abbrev pub Ahead : Pairs → Pairs → Type 0
Ahead c d = (length c < length d) ⊎ ((length c ≡ length d) × Before (pair_bytes c) (pair_bytes d))

abbrev pub Rising : List Pairs → Type 0
Rising [] = Unit
Rising (c ∷ cs) = All (Ahead c) cs × Rising cs

rising_++ : (xs ys : List Pairs) → Rising xs → Rising ys → ((x y : Pairs) → x ∈ xs → y ∈ ys → Ahead x y) → Rising (xs ++ ys)
rising_++ [] ys a b h = b
rising_++ (x ∷ xs) ys a b h =
    (all-++ (Ahead x) xs ys a.0 (∈-all (Ahead x) ys (λ y m. h x y (inl refl) m)), rising_++ xs ys a.1 b (λ z y m n. h z y (inr m) n))

-- the pairs themselves ascend
abbrev pub PairBefore : ℕ × ℕ → ℕ × ℕ → Type 0
PairBefore p q = (p.0 < q.0) ⊎ ((p.0 ≡ q.0) × (p.1 < q.1))

abbrev pub PairsRise : Pairs → Type 0
PairsRise [] = Unit
PairsRise (p ∷ ps) = All (PairBefore p) ps × PairsRise ps

ahead_cons : (p : ℕ × ℕ) (c d : Pairs) → Ahead c d → Ahead (p ∷ c) (p ∷ d)
unfolding pair_bytes
ahead_cons p c d (inl h) = inl (omega arith)
ahead_cons p c d (inr (e, b)) = inr (ap suc e, inr (refl, inr (refl, b)))

rising_map : (p : ℕ × ℕ) (cs : List Pairs) → Rising cs → Rising (map (p ∷◌) cs)
rising_map p [] a = tt
rising_map p (c ∷ cs) a = (all_map (p ∷◌) (Ahead c) (Ahead (p ∷ c)) cs (λ d. ahead_cons p c d) a.0, rising_map p cs a.1)

choice_∈ : {c ps : Pairs} → Choice c ps → (q : ℕ × ℕ) → q ∈ c → q ∈ ps
choice_∈ empty q m = elim m [ ]
choice_∈ (take_it s) q (inl e) = inl e
choice_∈ (take_it s) q (inr m) = inr (choice_∈ s q m)
choice_∈ (leave_it s) q m = inr (choice_∈ s q m)

first-before : (p : ℕ × ℕ) (c d : Pairs) → length (p ∷ c) ≡ length d → ((q : ℕ × ℕ) → q ∈ d → PairBefore p q) → Ahead (p ∷ c) d
unfolding pair_bytes
first-before p c [] e h = absurd (omega arith)
first-before p c (q ∷ d) e h = go (h q (inl refl))
  where
    go : PairBefore p q → Ahead (p ∷ c) (q ∷ d)
    go (inl l) = inr (e, inl l)
    go (inr (k, l)) = inr (e, inr (k, inl l))

choices_rise : (ps : Pairs) (k : ℕ) → PairsRise ps → Rising (choices ps k)
unfolding choices
choices_rise ps zero r = (tt, tt)
choices_rise [] (suc k) r = tt
choices_rise (p ∷ ps) (suc k) r =
    rising_++ (map (p ∷◌) (choices ps k)) (choices ps (suc k)) (rising_map p (choices ps k) (choices_rise ps k r.1)) (choices_rise ps (suc k) r.1) cross
  where
    cross : (x y : Pairs) → x ∈ map (p ∷◌) (choices ps k) → y ∈ choices ps (suc k) → Ahead x y
    cross x y m n =
        let (c, i, e) = ∈-mapped (p ∷◌) x (choices ps k) m in
        let (s, l) = stands_choice ps k c i in
        let (t, j) = stands_choice ps (suc k) y n in
        subst (λ x. Ahead x y) (sym e)
        (first-before p c y (omega (arith, l, j)) (λ q u. all-∈ (PairBefore p) ps r.0 q (choice_∈ t q u)))

of_from : (ps : Pairs) (n k : ℕ) (c : Pairs) → c ∈ choices_from ps k n → Choice c ps × (k ≤ length c)
unfolding choices_from
of_from ps zero k c m = let (s, l) = stands_choice ps k c m in (s, omega (arith, l))
of_from ps (suc n) k c m = go (∈_either c (choices ps k) (choices_from ps (suc k) n) m) (of_from ps n (suc k) c)
  where
    go : (c ∈ choices ps k) ⊎ (c ∈ choices_from ps (suc k) n) → (c ∈ choices_from ps (suc k) n → Choice c ps × (suc k ≤ length c)) → Choice c ps × (k ≤ length c)
    go (inl i) r = let (s, l) = stands_choice ps k c i in (s, omega (arith, l))
    go (inr i) r = let (s, l) = r i in (s, omega arith)

from_rise : (ps : Pairs) (n k : ℕ) → PairsRise ps → Rising (choices_from ps k n)
unfolding choices_from
from_rise ps zero k r = choices_rise ps k r
from_rise ps (suc n) k r =
    rising_++ (choices ps k) (choices_from ps (suc k) n) (choices_rise ps k r) (from_rise ps n (suc k) r)
    (λ x y i j. let (s, l) = stands_choice ps k x i in let (t, h) = of_from ps n (suc k) y j in inl (omega arith))

from_all : (ps : Pairs) (n k : ℕ) (c : Pairs) → Choice c ps → k ≤ length c → length c ≤ k + n → c ∈ choices_from ps k n
unfolding choices_from
from_all ps zero k c s h l = let e : length c ≡ k = omega arith in subst (λ j. c ∈ choices ps j) e (choice_stands s)
from_all ps (suc n) k c s h l = go (ℕ_discrete (length c) k) (λ h'. from_all ps n (suc k) c s h' (omega arith))
  where
    go : Dec (length c ≡ k) → (suc k ≤ length c → c ∈ choices_from ps (suc k) n) → c ∈ (choices ps k ++ choices_from ps (suc k) n)
    go (yes e) r = ∈-left c (choices ps k) (choices_from ps (suc k) n) (subst (λ j. c ∈ choices ps j) e (choice_stands s))
    go (no e) r = ∈_right c (choices ps k) (choices_from ps (suc k) n) (r (omega arith))

-- Every choice, each once and in order.
pub choice_listed : (ps c : Pairs) → (c ∈ all_choices ps) ↔ Choice c ps
unfolding all_choices
choice_listed ps c = (λ m. (of_from ps (length ps) 0 c m).0, λ s. from_all ps (length ps) 0 c s (omega arith) (omega (arith, choice_length s)))

pub choices_ascend : (ps : Pairs) → PairsRise ps → Rising (all_choices ps)
unfolding all_choices
choices_ascend ps r = from_rise ps (length ps) 0 r

behind-later : (xs : List Pairs) (c : Pairs) (ys : List Pairs) → Rising (xs ++ (c ∷ ys)) → All (Ahead c) ys
behind-later [] c ys r = r.0
behind-later (x ∷ xs) c ys r = behind-later xs c ys r.1

module _ (verdict : Pairs → Verdict) (ps : Pairs) (rise : PairsRise ps) where
  -- What is answered: the choice gives "same", and every other that does has more pairs, or as many and comes behind it.
  pub record Wins (c : Pairs) : Type 0 where
    pub choice : Choice c ps
    pub same_verdict : is_same (verdict c) ≡ true
    pub fewest : (d : Pairs) → Choice d ps → is_same (verdict d) ≡ true → (d ≡ c) ⊎ Ahead c d
    pub settled : (d : Pairs) → Choice d ps → is_unsettled (verdict d) ≡ false

  abbrev test : Pairs → Bool
  test c = is_same (verdict c)

  abbrev past : Pairs → Bool
  past c = is_unsettled (verdict c)

  split : (c : Pairs) → fewest_by verdict (all_choices ps) ≡ chosen c → (some past (all_choices ps) ≡ false) × (first_of test (all_choices ps) ≡ chosen c)
  unfolding fewest_by
  split c e = go (some past (all_choices ps)) refl e
    where
      go : (b : Bool) → some past (all_choices ps) ≡ b → cond b undecided (first_of test (all_choices ps)) ≡ chosen c
          → (some past (all_choices ps) ≡ false) × (first_of test (all_choices ps) ≡ chosen c)
      go true h e = let z : ◌≡◌ {A = ℕ} 0 1 = cc in absurd (omega arith)
      go false h e = (h, e)

  pub fewest_wins : (c : Pairs) → fewest_by verdict (all_choices ps) ≡ chosen c → Wins c
  fewest_wins c e =
      let (h, k) = split c e in
      let f = first_of_lem test (all_choices ps) c k in
      record {
        choice = (choice_listed ps c).0 (subst (λ l. c ∈ l) (sym f.list) (∈_right c f.before (c ∷ f.behind) (inl refl)));
        same_verdict = f.passes;
        fewest = λ d s t. other f d t (∈_either d f.before (c ∷ f.behind) (subst (λ l. d ∈ l) f.list ((choice_listed ps d).1 s)));
        settled = λ d s. some-none past (all_choices ps) h d ((choice_listed ps d).1 s);
      }
    where
      other : (f : First test (all_choices ps) c) (d : Pairs) → test d ≡ true → (d ∈ f.before) ⊎ (d ∈ (c ∷ f.behind)) → (d ≡ c) ⊎ Ahead c d
      other f d t (inl m) = let n = all-∈ (λ d. test d ≡ false) f.before f.none_before d m in let z : ◌≡◌ {A = ℕ} 0 1 = cc in absurd (omega arith)
      other f d t (inr (inl m)) = inl m
      other f d t (inr (inr m)) = inr (all-∈ (Ahead c) f.behind (behind-later f.before c f.behind (subst Rising f.list (choices_ascend ps rise))) d m)

  -- "none" exactly if every choice gives "different"
  abbrev Different : Verdict → Type 0
  Different v = (n : ℕ) × (v ≡ different n)

  of_two : (v : Verdict) → is_unsettled v ≡ false → is_same v ≡ false → Different v
  unfolding is_unsettled is_same
  of_two unsettled h k = let z : ◌≡◌ {A = ℕ} 0 1 = cc in absurd (omega arith)
  of_two (same n) h k = let z : ◌≡◌ {A = ℕ} 0 1 = cc in absurd (omega arith)
  of_two (different n) h k = (n, refl)

  pub none_different : fewest_by verdict (all_choices ps) ≡ none → (d : Pairs) → Choice d ps → Different (verdict d)
  unfolding fewest_by
  none_different e d s = go (some past (all_choices ps)) refl e
    where
      go : (b : Bool) → some past (all_choices ps) ≡ b → cond b undecided (first_of test (all_choices ps)) ≡ none → Different (verdict d)
      go true h e = let z : ◌≡◌ {A = ℕ} 0 1 = cc in absurd (omega arith)
      go false h e =
          of_two (verdict d) (some-none past (all_choices ps) h d ((choice_listed ps d).1 s)) (first-none test (all_choices ps) e d ((choice_listed ps d).1 s))

  -- "unsettled" only if some choice is
  pub unsettled-some : fewest_by verdict (all_choices ps) ≡ undecided → (d : Pairs) × Choice d ps × (verdict d ≡ unsettled)
  unfolding fewest_by
  unsettled-some e = go (some past (all_choices ps)) refl e
    where
      go : (b : Bool) → some past (all_choices ps) ≡ b → cond b undecided (first_of test (all_choices ps)) ≡ undecided
          → (d : Pairs) × Choice d ps × (verdict d ≡ unsettled)
      go true h e = let (d, m, u) = some-passes past (all_choices ps) h in (d, (choice_listed ps d).0 m, settled_not (verdict d) u)
      go false h e = absurd (first-decided test (all_choices ps) e)
