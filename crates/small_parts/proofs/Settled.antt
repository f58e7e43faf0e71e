-- No question of the census is unsettled (document 02, request 2026-14): a field of parts of at most five bytes without definitions has at most 121
-- situations, whatever their names, since each result is shorter.
use mathlib.Core.Path.{◌≡◌, refl, sym, ◌∙◌, ap, subst}
use mathlib.Core.Bool.{Bool, true, false, cond}
use mathlib.Core.List.{List, [], ◌∷◌, ◌++◌, map, append_assoc}
use mathlib.Core.Logic.{◌⊎◌, inl, inr}
use Prim.Native.Nat.{ℕ, zero, suc, ◌+◌, ◌≤◌, ◌<◌, max}
use native.Mathlib.Omega.{arith}
use lib.ListN.{length, length-append, length-map}
use lib.Dec.{eqb}
use borrow.Author.Tests.{ne_eqb}
use Rattle.calculus.specs.Term.{Term, ren}
use Rattle.calculus.specs.Free.{fn}
use Rattle.calculus.proofs.Selection.{among_in}
use Rattle.calculus.specs.Cond.{Pairs}
use Rattle.calculus.specs.Distinction.{among}
use Rattle.terms.specs.Limits.{name_count}
use Rattle.terms.specs.Encoding.{encode}
use Rattle.terms.specs.Question.{Question}
use Rattle.calculus.specs.Lists.{◌∈◌, All, Distinct}
use Rattle.steps.specs.Listed.{ListedStep, names_from, class_in}
use Rattle.calculus.proofs.Membership.{all-++, all_imp, all_map, distinct_length}
use Rattle.field.specs.Setting.{setting_of}
use Rattle.field.proofs.Moves.{moves_open}
use Rattle.field.specs.Situation.{Situation, free_in, situation, start_of, missing, new_name}
use Rattle.field.specs.Successors.{select, permitted, answers, updated_by, moves, past_limit, leads, led_to, with_steps, successors}
use Rattle.field.specs.Exploration.{found, unseen, together, Row, Exploration, incomplete, explored, with_row, explore, field_of}
use Rattle.verdict.specs.Verdict.{openly, differs, demands_of, verdict_by, verdict_of, decided}
use Rattle.verdict.proofs.DecidedField.{of_unsettled}
use Rattle.small_parts.proofs.Size.{size, size-encode, size-ren, few_names}
use Rattle.small_parts.proofs.FewSteps.{size_form, Short, FewSteps, few_listed}
use Rattle.verdict.specs.Verdict as verdicts

-- A new name is there while not all names are free.
all-missing : (F : List ℕ) (n k : ℕ) → missing F n k ≡ n + k → (j : ℕ) → j ∈ names_from n k → j ∈ F
unfolding missing names_from
all-missing F n zero e j i = absurd i
all-missing F n (suc k) e j i = go (λ e' q. all-missing F (suc n) k e' j q) (among F n) refl e i
  where
    go : (missing F (suc n) k ≡ suc n + k → j ∈ names_from (suc n) k → j ∈ F) → (b : Bool) → among F n ≡ b
        → cond b (missing F (suc n) k) n ≡ n + suc k → (j ≡ n) ⊎ (j ∈ names_from (suc n) k) → j ∈ F
    go ih true a e (inl q) = subst (λ m. m ∈ F) (sym q) (among_in F n a)
    go ih true a e (inr q) = ih (omega arith) q
    go ih false a e q = absurd (omega arith)

names_from_lem : (n k j : ℕ) → j ∈ names_from n k → n ≤ j
unfolding names_from
names_from_lem n zero j i = absurd i
names_from_lem n (suc k) j (inl e) = omega arith
names_from_lem n (suc k) j (inr i) = omega (arith, names_from_lem (suc n) k j i)

names_distinct : (n k : ℕ) → Distinct (names_from n k)
unfolding names_from
names_distinct n zero = tt
names_distinct n (suc k) = (λ i. let l = names_from_lem (suc n) k n i in omega arith, names_distinct (suc n) k)

names-length : (n k : ℕ) → length (names_from n k) ≡ k
unfolding names_from
names-length n zero = refl
names-length n (suc k) = ap suc (names-length (suc n) k)

new_there : (P Q : Term) → size P ≤ 6 → size Q ≤ 6 → eqb (new_name name_count P Q) name_count ≡ false
unfolding new_name
new_there P Q h k = ne_eqb (missing (fn P ++ fn Q) 0 name_count) name_count (λ e.
    let l = distinct_length (names_from 0 name_count) (fn P ++ fn Q) (names_distinct 0 name_count) (λ j i. all-missing (fn P ++ fn Q) 0 name_count e j i) in
    omega (arith, l, names-length 0 name_count, length-append (fn P) (fn Q), few_names P, few_names Q))

-- n times k
abbrev reps : ℕ → ℕ → ℕ
reps zero k = 0
reps (suc n) k = k + reps n k

reps-more : (n m k : ℕ) → n ≤ m → reps n k ≤ reps m k
reps-more zero m k l = omega arith
reps-more (suc n) zero k l = absurd (omega arith)
reps-more (suc n) (suc m) k l = omega (arith, reps-more n m k (omega arith))

one_by_one : (a b : ℕ) → a ≤ 1 → b ≤ 1 → reps a b ≤ 1
one_by_one zero b h k = omega arith
one_by_one (suc zero) b h k = omega arith
one_by_one (suc (suc a)) b h k = absurd (omega arith)

two_by_two : (a b : ℕ) → a ≤ 2 → b ≤ 2 → reps a b ≤ 4
two_by_two zero b h k = omega arith
two_by_two (suc zero) b h k = omega arith
two_by_two (suc (suc zero)) b h k = omega arith
two_by_two (suc (suc (suc a))) b h k = absurd (omega arith)

module _ {A : Type 0} where
  select-length : (f : A → Bool) (xs : List A) → length (select f xs) ≤ length xs
  unfolding select
  select-length f [] = omega arith
  select-length f (x ∷ xs) = go (select-length f xs) (f x)
    where
      go : length (select f xs) ≤ length xs → (b : Bool) → length (cond b (x ∷ select f xs) (select f xs)) ≤ suc (length xs)
      go l true = omega arith
      go l false = omega arith

  select-all : (S : A → Type 0) (f : A → Bool) (xs : List A) → All S xs → All S (select f xs)
  unfolding select
  select-all S f [] h = tt
  select-all S f (x ∷ xs) h = go (select-all S f xs h.1) (f x)
    where
      go : All S (select f xs) → (b : Bool) → All S (cond b (x ∷ select f xs) (select f xs))
      go r true = (h.0, r)
      go r false = r

together-length : (g : ListedStep → List Situation) (k : ℕ) → ((s : ListedStep) → length (g s) ≤ k) → (ss : List ListedStep)
    → length (together (map g ss)) ≤ reps (length ss) k
unfolding together
together-length g k h [] = omega arith
together-length g k h (s ∷ ss) = omega (arith, h s, together-length g k h ss, length-append (g s) (together (map g ss)))

together-all : (S : Situation → Type 0) (R : ListedStep → Type 0) (g : ListedStep → List Situation) → ((s : ListedStep) → R s → All S (g s))
    → (ss : List ListedStep) → All R ss → All S (together (map g ss))
unfolding together
together-all S R g h [] k = tt
together-all S R g h (s ∷ ss) k = all-++ S (g s) (together (map g ss)) (h s k.0) (together-all S R g h ss k.1)

together-++ : (ms ns : List (List Situation)) → together (ms ++ ns) ≡ together ms ++ together ns
unfolding together
together-++ [] ns = refl
together-++ (m ∷ ms) ns = ap (λ r. m ++ r) (together-++ ms ns) ∙ sym (append_assoc m (together ms) (together ns))

module _ (make : Term → Term → Pairs → Situation) (F : List ℕ) (D : Pairs) (ss ts : List ListedStep) where
  moves-length : length (together (moves false name_count make F D ss ts)) ≤ reps (length ss) (length ts)
  moves-length =
      let e = moves_open name_count make F D ss ts in
      let l = together-length (λ s. map (λ t. make s.result (ren (class_in s.classes) t.result) (updated_by F D s)) (select (answers name_count s) ts)) (length ts)
      (λ s. omega (arith, length-map (select (answers name_count s) ts) (λ t. make s.result (ren (class_in s.classes) t.result) (updated_by F D s)), select-length (answers name_count s) ts))
      (select (permitted D) ss) in
      rw e (omega (arith, l, reps-more (length (select (permitted D) ss)) (length ss) (length ts) (select-length (permitted D) ss)))

  moves-all : (n m : ℕ) (S : Situation → Type 0) → ((P Q : Term) (E : Pairs) → size P < n → size Q < m → S (make P Q E))
      → All (Short n) ss → All (Short m) ts → All S (together (moves false name_count make F D ss ts))
  moves-all n m S h hs ht =
      rw (moves_open name_count make F D ss ts)
      (together-all S (Short n) _
      (λ s k. all_map (λ t. make s.result (ren (class_in s.classes) t.result) (updated_by F D s)) (Short m) S (select (answers name_count s) ts)
      (λ t j. h s.result (ren (class_in s.classes) t.result) (updated_by F D s) k (omega (arith, size-ren (class_in s.classes) t.result, j)))
      (select-all (Short m) (answers name_count s) ts ht))
      (select (permitted D) ss) (select-all (Short n) (permitted D) ss hs))

-- What taking up a situation whose longer part has m bytes may cost in all.
abbrev cost : ℕ → ℕ
cost zero = 1
cost (suc zero) = 1
cost (suc (suc zero)) = 3
cost (suc (suc (suc zero))) = 7
cost (suc (suc (suc (suc zero)))) = 15
cost (suc (suc (suc (suc (suc n))))) = 121

cost-some : (m : ℕ) → 1 ≤ cost m
cost-some zero = omega arith
cost-some (suc zero) = omega arith
cost-some (suc (suc zero)) = omega arith
cost-some (suc (suc (suc zero))) = omega arith
cost-some (suc (suc (suc (suc zero)))) = omega arith
cost-some (suc (suc (suc (suc (suc n))))) = omega arith

cost_1 : (m : ℕ) → m ≤ 1 → cost m ≤ 1
cost_1 zero h = omega arith
cost_1 (suc zero) h = omega arith
cost_1 (suc (suc n)) h = absurd (omega arith)

cost_2 : (m : ℕ) → m ≤ 2 → cost m ≤ 3
cost_2 zero h = omega arith
cost_2 (suc zero) h = omega arith
cost_2 (suc (suc zero)) h = omega arith
cost_2 (suc (suc (suc n))) h = absurd (omega arith)

cost_3 : (m : ℕ) → m ≤ 3 → cost m ≤ 7
cost_3 zero h = omega arith
cost_3 (suc zero) h = omega arith
cost_3 (suc (suc zero)) h = omega arith
cost_3 (suc (suc (suc zero))) h = omega arith
cost_3 (suc (suc (suc (suc n)))) h = absurd (omega arith)

cost_4 : (m : ℕ) → m ≤ 4 → cost m ≤ 15
cost_4 zero h = omega arith
cost_4 (suc zero) h = omega arith
cost_4 (suc (suc zero)) h = omega arith
cost_4 (suc (suc (suc zero))) h = omega arith
cost_4 (suc (suc (suc (suc zero)))) h = omega arith
cost_4 (suc (suc (suc (suc (suc n))))) h = absurd (omega arith)

abbrev larger : Situation → ℕ
larger s = max (size s.first) (size s.second)

abbrev total : List Situation → ℕ
total [] = 0
total (s ∷ ss) = cost (larger s) + total ss

total-++ : (ss ts : List Situation) → total (ss ++ ts) ≡ total ss + total ts
total-++ [] ts = omega arith
total-++ (s ∷ ss) ts = omega (arith, total-++ ss ts)

total-unseen : (known ss : List Situation) → total (unseen known ss) ≤ total ss
unfolding unseen
total-unseen known [] = omega arith
total-unseen known (s ∷ ss) = go (total-unseen known ss) (total-unseen (s ∷ known) ss) (found known s)
  where
    go : total (unseen known ss) ≤ total ss → total (unseen (s ∷ known) ss) ≤ total ss → (b : Bool)
        → total (cond b (unseen known ss) (s ∷ unseen (s ∷ known) ss)) ≤ cost (larger s) + total ss
    go l k true = omega arith
    go l k false = omega arith

total_within : (n k : ℕ) → ((m : ℕ) → m ≤ n → cost m ≤ k) → (ss : List Situation) → All (λ s. larger s ≤ n) ss → total ss ≤ reps (length ss) k
total_within n k h [] a = omega arith
total_within n k h (s ∷ ss) a = omega (arith, h (larger s) a.0, total_within n k h ss a.1)

-- both parts have at most five bytes
abbrev Small : Situation → Type 0
Small s = larger s ≤ 5

pub record Taken (s : Situation) : Type 0 where
  pub wants : List (List Situation)
  pub leading : successors (setting_of false []) s ≡ leads wants
  pub cheap : suc (total (together wants)) ≤ cost (larger s)
  pub small : All Small (together wants)

situation_smaller : (n m : ℕ) (P Q : Term) (E : Pairs) → size P < n → size Q < m → larger (situation name_count P Q E) < max n m
unfolding situation
situation_smaller n m P Q E h k = omega arith

none : (a b : ℕ) → a ≤ 0 → reps a b ≤ 0
none zero b h = omega arith
none (suc a) b h = absurd (omega arith)

unseen_all_small : (known ss : List Situation) → All Small ss → All Small (unseen known ss)
unfolding unseen
unseen_all_small known [] h = tt
unseen_all_small known (s ∷ ss) h = go (unseen_all_small known ss h.1) (unseen_all_small (s ∷ known) ss h.1) (found known s)
  where
    go : All Small (unseen known ss) → All Small (unseen (s ∷ known) ss) → (b : Bool) → All Small (cond b (unseen known ss) (s ∷ unseen (s ∷ known) ss))
    go i j true = i
    go i j false = (h.0, j)

taken : (s : Situation) → Small s → Taken s
unfolding successors setting_of with_steps led_to
taken s h = record {
  wants = ms;
  leading = rw (ps.is, qs.is, new_there P Q (omega arith) (omega arith)) refl;
  cheap = go (larger s) refl;
  small = all_imp (λ t. larger t < larger s) Small (together ms) (λ t l. omega arith) smaller;
}
  where
    P : Term
    P = s.first

    Q : Term
    Q = s.second

    x : ℕ
    x = new_name name_count P Q

    ps : FewSteps x P
    ps = few_listed x P (omega arith)

    qs : FewSteps x Q
    qs = few_listed x Q (omega arith)

    F : List ℕ
    F = free_in name_count P Q

    ms₁ : List (List Situation)
    ms₁ = moves false name_count (situation name_count) F s.apart ps.steps qs.steps

    ms₂ : List (List Situation)
    ms₂ = moves false name_count (λ Q P E. situation name_count P Q E) F s.apart qs.steps ps.steps

    ms : List (List Situation)
    ms = ms₁ ++ ms₂

    smaller : All (λ t. larger t < larger s) (together ms)
    smaller =
        subst (All (λ t. larger t < larger s)) (sym (together-++ ms₁ ms₂))
        (all-++ (λ t. larger t < larger s) (together ms₁) (together ms₂)
        (moves-all (situation name_count) F s.apart ps.steps qs.steps (size P) (size Q) (λ t. larger t < larger s)
        (λ A B E i j. situation_smaller (size P) (size Q) A B E i j) ps.short qs.short)
        (moves-all (λ Q P E. situation name_count P Q E) F s.apart qs.steps ps.steps (size Q) (size P) (λ t. larger t < larger s)
        (λ A B E i j. situation_smaller (size P) (size Q) B A E j i) qs.short ps.short))

    a : ℕ
    a = length ps.steps

    b : ℕ
    b = length qs.steps

    count : length (together ms) ≤ reps a b + reps b a
    count =
        omega (
          arith,
          ap (length {A = Situation}) (together-++ ms₁ ms₂),
          length-append (together ms₁) (together ms₂),
          moves-length (situation name_count) F s.apart ps.steps qs.steps,
          moves-length (λ Q P E. situation name_count P Q E) F s.apart qs.steps ps.steps,
        )

    within : (n k l : ℕ) → ((m : ℕ) → m ≤ n → cost m ≤ k) → larger s ≤ suc n → length (together ms) ≤ l → total (together ms) ≤ reps l k
    within n k l h g j =
        omega (
          arith,
          total_within n k h (together ms) (all_imp (λ t. larger t < larger s) (λ t. larger t ≤ n) (together ms) (λ t i. omega arith) smaller),
          reps-more (length (together ms)) l k j,
        )

    go : (m : ℕ) → larger s ≡ m → suc (total (together ms)) ≤ cost m
    go zero e = let l = within 0 1 0 (λ m h. cost_1 m (omega arith)) (omega arith) (omega (arith, count, none a b (omega (arith, ps.few)), none b a (omega (arith, qs.few)))) in omega arith
    go (suc zero) e = let l = within 0 1 0 (λ m h. cost_1 m (omega arith)) (omega arith) (omega (arith, count, none a b (omega (arith, ps.few)), none b a (omega (arith, qs.few)))) in omega arith
    go (suc (suc zero)) e =
        let l = within 1 1 2 cost_1 (omega arith) (omega (arith, count, one_by_one a b (omega (arith, ps.few)) (omega (arith, qs.few)), one_by_one b a (omega (arith, qs.few)) (omega (arith, ps.few)))) in omega arith
    go (suc (suc (suc zero))) e =
        let l = within 2 3 2 cost_2 (omega arith) (omega (arith, count, one_by_one a b (omega (arith, ps.few)) (omega (arith, qs.few)), one_by_one b a (omega (arith, qs.few)) (omega (arith, ps.few)))) in omega arith
    go (suc (suc (suc (suc zero)))) e =
        let l = within 3 7 2 cost_3 (omega arith) (omega (arith, count, one_by_one a b (omega (arith, ps.few)) (omega (arith, qs.few)), one_by_one b a (omega (arith, qs.few)) (omega (arith, ps.few)))) in omega arith
    go (suc (suc (suc (suc (suc n))))) e =
        let l = within 4 15 8 cost_4 (omega arith) (omega (arith, count, two_by_two a b (omega (arith, ps.few)) (omega (arith, qs.few)), two_by_two b a (omega (arith, qs.few)) (omega (arith, ps.few)))) in omega arith

with_row_lem : (r : Row) (x : Exploration) → with_row r x ≡ incomplete → x ≡ incomplete
unfolding with_row
with_row_lem r incomplete e = refl
with_row_lem r (explored rs) e = let z : ◌≡◌ {A = ℕ} 0 1 = cc in absurd (omega arith)

-- Exploration with enough capacity is complete.
complete : (n : ℕ) (known waiting : List Situation) → All Small waiting → total waiting ≤ n → explore (setting_of false []) n known waiting ≡ incomplete → ⊥
unfolding explore
complete zero known [] h l e = let z : ◌≡◌ {A = ℕ} 0 1 = cc in omega arith
complete zero known (s ∷ waiting) h l e = omega (arith, cost-some (larger s))
complete (suc n) known [] h l e = let z : ◌≡◌ {A = ℕ} 0 1 = cc in omega arith
complete (suc n) known (s ∷ waiting) h l e =
    let t = taken s h.0 in
    let fresh : List Situation = unseen known (together t.wants) in
    complete n (known ++ fresh) (waiting ++ fresh)
    (all-++ Small waiting fresh h.1 (unseen_all_small known (together t.wants) t.small))
    (omega (arith, total-++ waiting fresh, total-unseen known (together t.wants), t.cheap))
    (with_row_lem (record { self = s; wants = t.wants }) _ (subst (λ o. elim o [
      | past_limit ↦ incomplete
      | leads ms ↦ (let fresh = unseen known (together ms) in
          with_row (record { self = s; wants = ms }) (explore (setting_of false []) n (known ++ fresh) (waiting ++ fresh)))
    ] ≡ incomplete) t.leading e))

start_small : (q : Question) → size q.first ≤ 5 → size q.second ≤ 5 → larger (start_of false q) ≤ 5
unfolding start_of situation
start_small q h k = omega (arith, size_form q.first, size_form q.second)

cost-all : (m : ℕ) → m ≤ 5 → cost m ≤ 121
cost-all zero h = omega arith
cost-all (suc zero) h = omega arith
cost-all (suc (suc zero)) h = omega arith
cost-all (suc (suc (suc zero))) h = omega arith
cost-all (suc (suc (suc (suc zero)))) h = omega arith
cost-all (suc (suc (suc (suc (suc n))))) h = omega arith

-- Neither the names nor the apart list matter.
pub census_settled : (q : Question) → q.bodies ≡ [] → length (encode 0 q.first) ≤ 5 → length (encode 0 q.second) ≤ 5 → (capacity : ℕ)
    → 121 ≤ capacity → ¬ (verdict_of q capacity ≡ verdicts.unsettled)
unfolding verdict_by differs field_of
census_settled q b h k capacity l e =
    let start : Situation = start_of false q in
    let small : larger start ≤ 5 =
    start_small q (omega (arith, h, size-encode 0 q.first)) (omega (arith, k, size-encode 0 q.second)) in
    complete capacity (start ∷ []) (start ∷ []) (small, tt) (omega (arith, cost-all (larger start) small))
    (of_unsettled (demands_of openly (setting_of false [])) start (explore (setting_of false []) capacity (start ∷ []) (start ∷ []))
    (subst (λ bs. decided (demands_of openly (setting_of false bs)) start (explore (setting_of false bs) capacity (start ∷ []) (start ∷ [])) ≡ verdicts.unsettled) b e))
