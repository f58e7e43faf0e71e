-- The field of a start within the limits is the same with more names, and no situation of it is past a limit then: document 02, request 2026-11. For any
-- number of names and any number more. Assumes nothing.
use mathlib.Core.Path.{◌≡◌, refl, sym, ◌∙◌, ap, ap₂, subst}
use mathlib.Core.Bool.{Bool, true, false, cond}
use mathlib.Core.List.{List, [], ◌∷◌, ◌++◌, map}
use mathlib.Core.Logic.{◌≢◌, ◌⊎◌, inl, inr}
use native.Mathlib.Omega.{arith}
use Prim.Native.Nat.{ℕ, zero, suc, ◌+◌, ◌<◌, ◌≤◌}
use lib.ListN.{length, length-map}
use Rattle.calculus.specs.Term.{Term, ren, put}
use Rattle.calculus.specs.Free.{In, Free, fn}
use Rattle.calculus.specs.Cond.{Pairs, Cond, cls}
use Rattle.calculus.specs.Distinction.{Resp, among, keep}
use Rattle.calculus.specs.Definitions.{Defs}
use Rattle.calculus.specs.Published.{Action, input, bound_names, Transition}
use Rattle.calculus.specs.OpenBisimulation.{update}
use Rattle.calculus.proofs.Selection.{among_in}
use Rattle.calculus.proofs.UpToRenaming.{Either, fn→either}
use Rattle.terms.specs.Encoding.{InScope}
use Rattle.terms.specs.Operations.{holds_apart}
use Rattle.terms.proofs.ScopeLaws.{free_below}
use Rattle.calculus.specs.Lists.{All, Distinct}
use Rattle.steps.specs.Derived.{Derived, TooMany, TooLong}
use Rattle.steps.specs.Listed.{ListedStep, names_from, classes_of, class_in, kind_of, channel_of, object_of, listed_as, result_bytes}
use Rattle.steps.proofs.ClassLists.{Within, class_list}
use Rattle.steps.proofs.DerivedLaws.{transition_names}
use Rattle.calculus.proofs.Membership.{∈-map}
use Rattle.steps.proofs.Scope.{scope_calls, in_scope}
use Rattle.field.specs.Setting.{Setting}
use Rattle.field.specs.Situation.{Situation, free_from, free_in, pairs_of, situation, missing, new_name, Proper}
use Rattle.field.specs.Successors.{Outcome, past_limit, leads, successors}
use Rattle.field.specs.Field.{
  fresh,
  Move,
  Matches,
  Successor,
  first_moving,
  second_moving,
  both_do,
  both_receive,
  PartPast,
  too_many,
  too_long,
  too_many_calls,
  no_name,
  Past,
  InField,
  at_start,
  successor,
  SomePast,
}
use Rattle.field.proofs.Link.{SettingFor, Linked}
use Rattle.field.proofs.NewNames.{new_within}
use Rattle.field.proofs.Proper.{either_below}
use Rattle.field.proofs.SuccessorsLinked.{successors_linked}

-- The smallest name that is missing, and the names that are there, do not depend on how many there are, if all are below the smaller number.
not_there : (F : List ℕ) (n : ℕ) → ((i : ℕ) → In i F → i < n) → among F n ≡ false
not_there F n h = go (among F n) refl
  where
    go : (b : Bool) → among F n ≡ b → b ≡ false
    go true e = let l = h n (among_in F n e) in absurd (omega arith)
    go false e = refl

missing-same : (F : List ℕ) (n k extra : ℕ) → ((i : ℕ) → In i F → i < n + k) → missing F n (k + extra) ≡ missing F n k
unfolding missing
missing-same F n zero zero h = refl
missing-same F n zero (suc extra) h =
    let e : 0 + suc extra ≡ suc extra = omega arith in
    rw (e, missing, not_there F n (λ i m. let l = h i m in omega arith)) refl
missing-same F n (suc k) extra h =
    let e : suc k + extra ≡ suc (k + extra) = omega arith in
    rw (e, missing) (ap (λ m. cond (among F n) m n) (missing-same F (suc n) k extra (λ i m. let l = h i m in omega arith)))

none_from : (F : List ℕ) (n k : ℕ) → ((i : ℕ) → In i F → i < n) → free_from F n k ≡ []
unfolding free_from
none_from F n zero h = refl
none_from F n (suc k) h = rw (not_there F n h) (none_from F (suc n) k (λ i m. let l = h i m in omega arith))

free_same : (F : List ℕ) (n k extra : ℕ) → ((i : ℕ) → In i F → i < n + k) → free_from F n (k + extra) ≡ free_from F n k
unfolding free_from
free_same F n zero extra h =
    let e : 0 + extra ≡ extra = omega arith in
    rw e (none_from F n extra (λ i m. let l = h i m in omega arith))
free_same F n (suc k) extra h =
    let e : suc k + extra ≡ suc (k + extra) = omega arith in
    rw (e, free_from) (ap (λ l. cond (among F n) (n ∷ l) l) (free_same F (suc n) k extra (λ i m. let l = h i m in omega arith)))

module _ (names extra : ℕ) (P Q : Term) (below : (n : ℕ) → Either n P Q → n < names) where
  in_below : (i : ℕ) → In i (fn P ++ fn Q) → i < 0 + names
  in_below i m = let l = below i (fn→either i P Q m) in omega arith

  pub new-same : new_name (names + extra) P Q ≡ new_name names P Q
  unfolding new_name
  new-same = missing-same (fn P ++ fn Q) 0 names extra in_below

  pub situation-same : (D : Pairs) → situation (names + extra) P Q D ≡ situation names P Q D
  unfolding situation free_in
  situation-same D = ap (λ F. record { first = P; second = Q; apart = keep (holds_apart D) (pairs_of F) }) (free_same (fn P ++ fn Q) 0 names extra in_below)

scope_more : (names extra : ℕ) (arities : List ℕ) (P : Term) → InScope names arities 0 P → InScope (names + extra) arities 0 P
scope_more names extra arities P g =
    in_scope (names + extra) arities 0 P (λ n f. let l = free_below names arities 0 P g n f in omega arith) (scope_calls names arities 0 P g)

pub proper_more : (names extra : ℕ) (arities : List ℕ) (s : Situation) → Proper names arities s → Proper (names + extra) arities s
proper_more names extra arities s p = record {
  first = scope_more names extra arities s.first p.first;
  second = scope_more names extra arities s.second p.second;
  distinction = p.distinction;
  canonical = p.canonical
      ∙ sym (situation-same names extra s.first s.second (either_below names arities s.first s.second p.first p.second) s.apart);
}

-- A listed step with the classes of more names: those of the further names are their own.
widened : ℕ → ListedStep → ListedStep
widened names s =
    record { classes = map (class_in s.classes) (names_from 0 names); kind = s.kind; channel = s.channel; object = s.object; result = s.result }

widened_step : (names extra : ℕ) (M : Cond) (α : Action) (R : Term) → Within names M
    → listed_as (names + extra) M α R ≡ widened (names + extra) (listed_as names M α R)
unfolding widened listed_as classes_of
widened_step names extra M α R w =
    ap
    (λ (c : ℕ → ℕ). record { classes = map c (names_from 0 (names + extra)); kind = kind_of α; channel = channel_of α; object = object_of α; result = R })
    (sym (class_list names M w))

module _ {A B : Type 0} (f : A → B) where
  distinct_of : (xs : List A) → Distinct (map f xs) → Distinct xs
  distinct_of [] d = tt
  distinct_of (x ∷ xs) d = (λ m. d.0 (∈-map f x xs m), distinct_of xs d.1)

module _ (form : Term → Term) (Δ : Defs) (names extra x : ℕ) (P : Term) (below : (n : ℕ) → Free n P → n < names) where
  -- a step among more names is the widened one of a step
  narrow : (s : ListedStep) → Derived form Δ (names + extra) x P s → (t : ListedStep) × Derived form Δ names x P t × (s ≡ widened (names + extra) t)
  narrow s d = (
    listed_as names d.condition d.action (form d.result),
    record { condition = d.condition; action = d.action; result = d.result; transition = d.transition; binds = d.binds; listed = refl },
    d.listed ∙ widened_step names extra d.condition d.action (form d.result) (λ n o. below n (transition_names Δ d.transition n o)),
  )

  narrow-all : (ss : List ListedStep) → All (Derived form Δ (names + extra) x P) ss
      → (ts : List ListedStep) × All (Derived form Δ names x P) ts × (ss ≡ map (widened (names + extra)) ts)
  narrow-all [] a = ([], tt, refl)
  narrow-all (s ∷ ss) a =
      let (t, d, e) = narrow s a.0 in
      let (ts, b, f) = narrow-all ss a.1 in
      (t ∷ ts, (d, b), ap₂ ◌∷◌ e f)

  many-narrow : (most : ℕ) → TooMany form Δ (names + extra) most x P → TooMany form Δ names most x P
  many-narrow most h =
      let (ts, b, f) = narrow-all h.steps h.derived in
      record {
        steps = ts;
        distinct = distinct_of (widened (names + extra)) ts (subst Distinct f h.distinct);
        derived = b;
        many = omega (arith, h.many, ap length f ∙ length-map ts (widened (names + extra)));
      }

  long_narrow : (longest : ℕ) → TooLong form Δ (names + extra) longest x P → TooLong form Δ names longest x P
  unfolding result_bytes widened
  long_narrow longest h =
      let (t, d, e) = narrow h.step h.derived in
      record { step = t; derived = d; long = omega (arith, h.long, ap (λ s. length (result_bytes s)) e) }

-- the same setting with more names
abbrev pub wider : Setting → ℕ → Setting
wider S extra = record { names = S.names + extra; longest = S.longest; most = S.most; calls = S.calls; body = S.body; form = S.form; differ = S.differ }

-- The field.
module _ (Δ : Defs) (S : Setting) (extra : ℕ) (arities : List ℕ) (setting : SettingFor Δ S arities) where
  abbrev T : Setting
  T = wider S extra

  abbrev Good : Situation → Type 0
  Good = Proper S.names arities

  good_below : (s : Situation) → Good s → (n : ℕ) → Either n s.first s.second → n < S.names
  good_below s p = either_below S.names arities s.first s.second p.first p.second

  fresh-same : (s : Situation) → Good s → fresh Δ T s ≡ fresh Δ S s
  fresh-same s p = new-same S.names extra s.first s.second (good_below s p)

  move_to : {x : ℕ} {P : Term} → Move Δ S x P → Move Δ T x P
  move_to m = record { condition = m.condition; action = m.action; result = m.result; transition = m.transition; binds = m.binds }

  move_from : {x : ℕ} {P : Term} → Move Δ T x P → Move Δ S x P
  move_from m = record { condition = m.condition; action = m.action; result = m.result; transition = m.transition; binds = m.binds }

  -- a successor is proper again
  next_good : (s t : Situation) → Good s → ¬ Past Δ S s → Successor Δ S s t → Good t
  next_good s t p h q = go (successors S s) refl
    where
      linked : Linked Δ S arities s
      linked = successors_linked Δ S arities setting s p

      go : (o : Outcome) → successors S s ≡ o → Good t
      go past_limit e = absurd (h (linked.past.0 e))
      go (leads ms) e = (linked.given ms e).proper t (((linked.given ms e).members t).1 q)

  -- the situation is the same with more names, where it is proper
  cut-same : (P Q : Term) (D : Pairs) → Good (situation S.names P Q D) → situation T.names P Q D ≡ situation S.names P Q D
  unfolding situation
  cut-same P Q D p = situation-same S.names extra P Q (either_below S.names arities P Q p.first p.second) D

  matches_to_lem : {x : ℕ} {P Q : Term} {m : Move Δ S x P} {n : Move Δ S x Q} → Matches Δ S m n → Matches Δ T (move_to m) (move_to n)
  unfolding move_to
  matches_to_lem k = record { implied = k.implied; equal = k.equal }

  matches_from : {x : ℕ} {P Q : Term} {m : Move Δ T x P} {n : Move Δ T x Q} → Matches Δ T m n → Matches Δ S (move_from m) (move_from n)
  unfolding move_from
  matches_from k = record { implied = k.implied; equal = k.equal }

  -- a successor by moves that bind x
  abbrev ByFirst : Setting → Situation → Situation → ℕ → Type 0
  ByFirst U s t x = (m : Move Δ U x s.first) (n : Move Δ U x s.second) → Resp m.condition s.apart → Matches Δ U m n
      → t ≡ situation U.names (U.form m.result) (U.form (ren (cls m.condition) n.result)) (update s.apart s.first s.second m.action m.condition)
      → Successor Δ U s t

  abbrev BySecond : Setting → Situation → Situation → ℕ → Type 0
  BySecond U s t x = (m : Move Δ U x s.second) (n : Move Δ U x s.first) → Resp m.condition s.apart → Matches Δ U m n
      → t ≡ situation U.names (U.form (ren (cls m.condition) n.result)) (U.form m.result) (update s.apart s.second s.first m.action m.condition)
      → Successor Δ U s t

  abbrev ByBoth : Setting → Situation → Situation → ℕ → Type 0
  ByBoth U s t x = (α : Action) → ((y : ℕ) → In y (bound_names α) → y ≡ x) → ((a y : ℕ) → α ≢ input a y) → (P Q : Term)
      → Transition Δ s.first [] α P → Transition Δ s.second [] α Q → t ≡ situation U.names (U.form P) (U.form Q) [] → Successor Δ U s t

  abbrev ByInput : Setting → Situation → Situation → ℕ → Type 0
  ByInput U s t x = (a y : ℕ) → (y ≡ x) ⊎ Free y s.first ⊎ Free y s.second → (P Q : Term)
      → Transition Δ s.first [] (input a x) P → Transition Δ s.second [] (input a x) Q
      → t ≡ situation U.names (U.form (ren (put x y) P)) (U.form (ren (put x y) Q)) [] → Successor Δ U s t

  successor_to : (s t : Situation) → Good s → ¬ Past Δ S s → Successor Δ S s t → Successor Δ T s t
  unfolding move_to
  successor_to s t p h q = go q (next_good s t p h q)
    where
      go : Successor Δ S s t → Good t → Successor Δ T s t
      go (first_moving d m n r k e) g =
          let by : ByFirst T s t (fresh Δ S s) = subst (ByFirst T s t) (fresh-same s p) (λ m n r k e. first_moving d m n r k e) in
          by (move_to m) (move_to n) r (matches_to_lem k) (e ∙ sym (cut-same _ _ _ (subst Good e g)))
      go (second_moving d m n r k e) g =
          let by : BySecond T s t (fresh Δ S s) = subst (BySecond T s t) (fresh-same s p) (λ m n r k e. second_moving d m n r k e) in
          by (move_to m) (move_to n) r (matches_to_lem k) (e ∙ sym (cut-same _ _ _ (subst Good e g)))
      go (both_do d α b i P Q u v e) g =
          let by : ByBoth T s t (fresh Δ S s) = subst (ByBoth T s t) (fresh-same s p) (λ α b i P Q u v e. both_do d α b i P Q u v e) in
          by α b i P Q u v (e ∙ sym (cut-same _ _ [] (subst Good e g)))
      go (both_receive d a y w P Q u v e) g =
          let by : ByInput T s t (fresh Δ S s) = subst (ByInput T s t) (fresh-same s p) (λ a y w P Q u v e. both_receive d a y w P Q u v e) in
          by a y w P Q u v (e ∙ sym (cut-same _ _ [] (subst Good e g)))

  successor_from : (s t : Situation) → Good s → ¬ Past Δ S s → Successor Δ T s t → Successor Δ S s t
  unfolding move_from
  successor_from s t p h (first_moving d m n r k e) =
      let by : (u : Situation) → ByFirst S s u (fresh Δ T s) = λ u. subst (ByFirst S s u) (sym (fresh-same s p)) (λ m n r k e. first_moving d m n r k e) in
      let u : Situation =
      situation S.names (S.form m.result) (S.form (ren (cls m.condition) n.result)) (update s.apart s.first s.second m.action m.condition) in
      let q : Successor Δ S s u = by u (move_from m) (move_from n) r (matches_from k) refl in
      subst (Successor Δ S s) (sym (e ∙ cut-same _ _ _ (next_good s u p h q))) q
  successor_from s t p h (second_moving d m n r k e) =
      let by : (u : Situation) → BySecond S s u (fresh Δ T s) = λ u. subst (BySecond S s u) (sym (fresh-same s p)) (λ m n r k e. second_moving d m n r k e) in
      let u : Situation =
      situation S.names (S.form (ren (cls m.condition) n.result)) (S.form m.result) (update s.apart s.second s.first m.action m.condition) in
      let q : Successor Δ S s u = by u (move_from m) (move_from n) r (matches_from k) refl in
      subst (Successor Δ S s) (sym (e ∙ cut-same _ _ _ (next_good s u p h q))) q
  successor_from s t p h (both_do d α b i P Q v w e) =
      let by : (u : Situation) → ByBoth S s u (fresh Δ T s) = λ u. subst (ByBoth S s u) (sym (fresh-same s p)) (λ α b i P Q v w e. both_do d α b i P Q v w e) in
      let u : Situation = situation S.names (S.form P) (S.form Q) [] in
      let q : Successor Δ S s u = by u α b i P Q v w refl in
      subst (Successor Δ S s) (sym (e ∙ cut-same _ _ [] (next_good s u p h q))) q
  successor_from s t p h (both_receive d a y f P Q v w e) =
      let by : (u : Situation) → ByInput S s u (fresh Δ T s) =
      λ u. subst (ByInput S s u) (sym (fresh-same s p)) (λ a y f P Q v w e. both_receive d a y f P Q v w e) in
      let u : Situation = situation S.names (S.form (ren (put (fresh Δ T s) y) P)) (S.form (ren (put (fresh Δ T s) y) Q)) [] in
      let q : Successor Δ S s u = by u a y f P Q v w refl in
      subst (Successor Δ S s) (sym (e ∙ cut-same _ _ [] (next_good s u p h q))) q

  -- what is past a limit with more names is past it with few
  part_from : (x : ℕ) (P : Term) → ((n : ℕ) → Free n P → n < S.names) → x ≤ S.names → PartPast Δ T x P → PartPast Δ S x P
  unfolding move_from
  part_from x P below l (too_many h) = too_many (many-narrow S.form Δ S.names extra x P below S.most h)
  part_from x P below l (too_long h) = too_long (long_narrow S.form Δ S.names extra x P below S.longest h)
  part_from x P below l (too_many_calls h) = too_many_calls h
  part_from x P below l (no_name e m y i) = no_name (omega (arith, e)) (move_from m) y i

  past_from : (s : Situation) → Good s → Past Δ T s → Past Δ S s
  past_from s p h = go (subst (λ x. PartPast Δ T x s.first ⊎ PartPast Δ T x s.second) (fresh-same s p) h)
    where
      within : fresh Δ S s ≤ S.names
      within = new_within S.names s.first s.second (good_below s p)

      go : PartPast Δ T (fresh Δ S s) s.first ⊎ PartPast Δ T (fresh Δ S s) s.second → Past Δ S s
      go (inl h) = inl (part_from (fresh Δ S s) s.first (λ n f. good_below s p n (inl f)) within h)
      go (inr h) = inr (part_from (fresh Δ S s) s.second (λ n f. good_below s p n (inr f)) within h)

  module _ (start : Situation) (proper : Good start) (settled : ¬ SomePast Δ S start) where
    within_limits : (s : Situation) → InField Δ S start s → ¬ Past Δ S s
    within_limits s f h = settled (record { there = s; member = f; past = h })

    field_good : {s : Situation} → InField Δ S start s → Good s
    field_good at_start = proper
    field_good (successor {s = s} {t = t} f h q) = next_good s t (field_good f) h q

    pub field_to : {s : Situation} → InField Δ S start s → InField Δ T start s
    field_to at_start = at_start
    field_to (successor {s = s} {t = t} f h q) =
        successor (field_to f) (λ k. h (past_from s (field_good f) k)) (successor_to s t (field_good f) h q)

    pub field_from : {s : Situation} → InField Δ T start s → InField Δ S start s
    field_from at_start = at_start
    field_from (successor {s = s} {t = t} f h q) =
        let i = field_from f in
        let k = within_limits s i in
        successor i k (successor_from s t (field_good i) k q)

    pub none-past : ¬ SomePast Δ T start
    none-past h =
        let i = field_from h.member in
        within_limits h.there i (past_from h.there (field_good i) h.past)
