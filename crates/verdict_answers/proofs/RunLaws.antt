-- The demands of one side, by runs of names: openly one run, late one run of all names, early a run of one name for each. Assumes nothing.
use mathlib.Core.Bool.{Bool, true, false, cond, ◌&&◌}
use mathlib.Core.List.{List, [], ◌∷◌, map}
use mathlib.Core.Logic.{inl, inr}
use mathlib.Core.Path.{◌≡◌, refl, sym, ap, ◌∙◌, subst}
use native.Mathlib.Omega.{arith}
use Rattle.std.specs.Prelude.{Result, Ok, Err}
use Prim.Native.Nat.{ℕ, ◌+◌, ◌-◌, ◌<◌, ◌≤◌}
use lib.Dec.{ltb}
use borrow.Author.Tests.{lt-ltb, le-ltb}
use Rattle.calculus.specs.Cond.{Pairs}
use Rattle.calculus.specs.Distinction.{among}
use Rattle.calculus.proofs.Selection.{among_in, in_among}
use Rattle.late_early.specs.LateEarly.{late, early}
use Rattle.terms.specs.Limits.{name_count}
use Rattle.terms.proofs.Answers.{both_true, true_both}
use Rattle.calculus.specs.Lists.{◌∈◌}
use Rattle.calculus.proofs.Membership.{∈-map}
use Rattle.steps.specs.Listed.{ListedStep, names_from}
use Rattle.field.specs.Situation.{Situation, free_from}
use Rattle.field.specs.Successors.{select, permitted, answers, allowed, received, led}
use Rattle.field.proofs.Members.{map-∈, ∈-number}
use Rattle.field.proofs.Moves.{moves_open}
use Rattle.field.proofs.Selections.{∈-select, select-∈, select-same}
use Rattle.field_pairs.proofs.ReceivedNames.{received_ascending, received-below}
use Rattle.field_successors.specs.Leading.{placed, leading}
use Rattle.verdict.specs.Received.{lots, demand_of}
use Rattle.verdict.specs.Verdict.{openly, named, differs}
use Rattle.verdict.proofs.NamedDemands.{of_demands, in_demands}
use Rattle.verdict.proofs.Rounds.{single}
use Rattle.verdict_answers.specs.Striking.{counted, lot_of, some_of, asked, demanded, run_demands, side_demands, Side, NameRun, ReliesOn, AnsweredIs, RunAnsweredIs, SideAnsweredIs}
use Rattle.verdict_answers.specs.Manners.{manner_of}
use Rattle.verdict_notes.specs.Notes.{Numbers}
use Rattle.verdict_answers.specs.declared.manner.Manner.{Manner}
use Rattle.verdict_answers.specs.declared.manner.Manner.TheVariants.{Open, Late, Early}
use Rattle.verdict_notes.specs.declared.relied.Relied.{Relied}
use Rattle.verdict_answers.proofs.DemandedMoves.{some-received}
use Rattle.verdict_answers.proofs.LotLaws.{in_names, of_lot, counted-received, some_there}
use Rattle.verdict_answers.proofs.Sweeping.{same-demands, Swept, swept_none, swept_more, swept_fails, swept_all}

-- the runs
pub open_run : NameRun (ltb name_count name_count) name_count (name_count + 1)
open_run y h l = le-ltb y name_count h

pub late_run : NameRun (ltb 0 name_count) 0 name_count
late_run y h l = lt-ltb y name_count l

pub early_run : (name : ℕ) → NameRun (ltb name name_count) name (name + 1)
early_run name y h l = ap (λ y. ltb y name_count) (let e : y ≡ name = omega arith in e)

module _ {A B : Type 0} where
  map_members : (f g : A → B) (xs : List A) → ((x : A) → x ∈ xs → f x ≡ g x) → map f xs ≡ map g xs
  map_members f g [] h = refl
  map_members f g (x ∷ xs) h = λ i. h x (inl refl) i ∷ map_members f g xs (λ y j. h y (inr j)) i

module _ {A : Type 0} where
  single-map : (f : A → Situation) (xs : List A) → map single (map f xs) ≡ map (λ x. f x ∷ []) xs
  single-map f [] = refl
  single-map f (x ∷ xs) = ap (single (f x) ∷◌) (single-map f xs)

module _ (second : Bool) (G : List ℕ) (D : Pairs) (ts : List ListedStep) where
  abbrev F : List ℕ
  F = free_from G 0 name_count

  -- openly, list for list
  pub open_demands : (ss : List ListedStep) → side_demands openly second F D ss ts ≡ run_demands false name_count (name_count + 1) second F D ss ts
  unfolding side_demands run_demands asked allowed demanded lot_of some_of counted leading led select names_from
  open_demands ss = ap (map (map single)) (moves_open name_count (placed second) F D ss ts) ∙ each ss
    where
      A : ListedStep → List Situation
      A s = map (λ t. led false (placed second) F D s t 0) (select (answers name_count s) ts)

      one : (s : ListedStep) → map single (A s) ≡ demanded name_count (name_count + 1) second F D ts s
      one s = single-map (λ t. led false (placed second) F D s t 0) (select (answers name_count s) ts)

      each : (ss : List ListedStep) → map (map single) (map A (select (permitted D) ss)) ≡ run_demands false name_count (name_count + 1) second F D ss ts
      each [] = refl
      each (s ∷ ss) = go (permitted D s) (each ss)
        where
          go : (b : Bool) → map (map single) (map A (select (permitted D) ss)) ≡ run_demands false name_count (name_count + 1) second F D ss ts
              → map (map single) (map A (cond b (s ∷ select (permitted D) ss) (select (permitted D) ss)))
              ≡ map (demanded name_count (name_count + 1) second F D ts)
              (cond (b && true) (s ∷ select (asked false name_count (name_count + 1) F D) ss) (select (asked false name_count (name_count + 1) F D) ss))
          go true r = λ i. one s i ∷ r i
          go false r = r

  -- a lot of names below the number of names
  same_demand : (s : ListedStep) (from to : ℕ) (ys : List ℕ) → ys ≡ lot_of from to F s → ((y : ℕ) → y ∈ ys → y < name_count)
      → demand_of name_count (placed second) F D ts s ys ≡ demanded from to second F D ts s
  unfolding demand_of demanded leading
  same_demand s from to ys e b =
      (λ i. map (λ t. each t i) (select (answers name_count s) ts))
      ∙ ap (λ ys. map (λ t. map (leading second F D s t) ys) (select (answers name_count s) ts)) e
    where
      each : (t : ListedStep) → map (led true (placed second) F D s t) ys ≡ map (leading second F D s t) ys
      each t = map_members (led true (placed second) F D s t) (leading second F D s t) ys (λ y i.
          sym (ap (λ b. led b (placed second) F D s t y) (lt-ltb y name_count (b y i))))

  module _ (s : ListedStep) (small : s.object < name_count) where
    -- the names of the late run
    late_lot : received true name_count F s ≡ lot_of 0 name_count F s
    unfolding lot_of
    late_lot =
        received_ascending G s small
        ∙ select-same (among (received true name_count F s)) (counted F s) (names_from 0 name_count)
        (λ y i. let l = (in_names 0 name_count y i).1 in sym (counted-received F s y (omega arith)))

    late_some : some_of (lot_of 0 name_count F s) ≡ true
    unfolding some_of
    late_some = go (lot_of 0 name_count F s) (subst (λ ys. s.object ∈ ys) late_lot (some-received name_count F s (λ k. small)))
      where
        go : (ys : List ℕ) → s.object ∈ ys → some_of ys ≡ true
        go [] i = elim i [ ]
        go (y ∷ ys) i = refl

    -- and of an early one
    early_lot : (y : ℕ) → y ∈ received true name_count F s → lot_of y (y + 1) F s ≡ y ∷ []
    unfolding lot_of select names_from
    early_lot y i =
        let z : y + 1 - y ≡ 1 = omega arith in
        rw (z, counted-received F s y (received-below G s small y i) ∙ in_among (received true name_count F s) y i) refl

  module _ (ss : List ListedStep) (small : (s : ListedStep) → s ∈ ss → s.object < name_count) where
    pub to_late : (m : List (List Situation)) → m ∈ side_demands (named late) second F D ss ts → m ∈ run_demands true 0 name_count second F D ss ts
    unfolding side_demands run_demands lots asked
    to_late m i =
        let d = of_demands name_count (placed second) F D late ss ts m i in
        let o = small d.step d.among in
        let e : d.lot ≡ received true name_count F d.step = only (received true name_count F d.step) d.lot d.offered in
        subst (λ m. m ∈ run_demands true 0 name_count second F D ss ts)
        (sym (d.is ∙ same_demand d.step 0 name_count d.lot (e ∙ late_lot d.step o) (λ y j. received-below G d.step o y (subst (λ ys. y ∈ ys) e j))))
        (∈-map (demanded 0 name_count second F D ts) d.step (select (asked true 0 name_count F D) ss)
        (∈-select (asked true 0 name_count F D) d.step ss d.among
        (true_both (allowed true name_count D d.step) (some_of (lot_of 0 name_count F d.step)) d.allowed_is (late_some d.step o))))
      where
        only : (zs ys : List ℕ) → ys ∈ (zs ∷ []) → ys ≡ zs
        only zs ys (inr x') = elim x' [ ]
        only zs ys (inl e) = e

    pub of_late : (m : List (List Situation)) → m ∈ run_demands true 0 name_count second F D ss ts → m ∈ side_demands (named late) second F D ss ts
    unfolding side_demands run_demands lots asked
    of_late m i =
        let (s, j, e) = map-∈ (demanded 0 name_count second F D ts) m (select (asked true 0 name_count F D) ss) i in
        let (h, a) = select-∈ (asked true 0 name_count F D) s ss j in
        let o = small s h in
        subst (λ m. m ∈ side_demands (named late) second F D ss ts)
        (same_demand s 0 name_count (received true name_count F s) (late_lot s o) (λ y k. received-below G s o y k) ∙ sym e)
        (in_demands name_count (placed second) F D late ss ts s h (both_true (allowed true name_count D s) (some_of (lot_of 0 name_count F s)) a).0
        (received true name_count F s) (inl refl))

    pub to_early : (m : List (List Situation)) → m ∈ side_demands (named early) second F D ss ts
        → (y : ℕ) × (y < name_count) × (m ∈ run_demands true y (y + 1) second F D ss ts)
    unfolding side_demands run_demands lots asked some_of
    to_early m i =
        let d = of_demands name_count (placed second) F D early ss ts m i in
        let o = small d.step d.among in
        let (y, j, e) = map-∈ (λ y. y ∷ []) d.lot (received true name_count F d.step) d.offered in
        let b = received-below G d.step o y j in
        let l = early_lot d.step o y j in (
          y,
          b,
          subst (λ m. m ∈ run_demands true y (y + 1) second F D ss ts)
              (sym (d.is ∙ same_demand d.step y (y + 1) d.lot (e ∙ sym l) (λ z k. below y b z (subst (λ ys. z ∈ ys) e k))))
              (∈-map (demanded y (y + 1) second F D ts) d.step (select (asked true y (y + 1) F D) ss)
              (∈-select (asked true y (y + 1) F D) d.step ss d.among
              (true_both (allowed true name_count D d.step) (some_of (lot_of y (y + 1) F d.step)) d.allowed_is (ap some_of l)))),
        )
      where
        below : (y : ℕ) → y < name_count → (z : ℕ) → z ∈ (y ∷ []) → z < name_count
        below y b z (inr x') = elim x' [ ]
        below y b z (inl e) = subst (λ z. z < name_count) (sym e) b

    pub of_early : (y : ℕ) → y < name_count → (m : List (List Situation)) → m ∈ run_demands true y (y + 1) second F D ss ts
        → m ∈ side_demands (named early) second F D ss ts
    unfolding side_demands run_demands lots asked
    of_early y b m i =
        let (s, j, e) = map-∈ (demanded y (y + 1) second F D ts) m (select (asked true y (y + 1) F D) ss) i in
        let (h, a) = select-∈ (asked true y (y + 1) F D) s ss j in
        let o = small s h in
        let (may, some) = both_true (allowed true name_count D s) (some_of (lot_of y (y + 1) F s)) a in
        let (z, k) = some_there (lot_of y (y + 1) F s) some in
        let (g, l, c) = of_lot y (y + 1) F s z k in
        let q : z ≡ y = omega arith in
        let r : y ∈ received true name_count F s = among_in (received true name_count F s) y (sym (counted-received F s y b) ∙ subst (λ z. counted F s z ≡ true) q c) in
        subst (λ m. m ∈ side_demands (named early) second F D ss ts)
        (same_demand s y (y + 1) (y ∷ []) (sym (early_lot s o y r)) (λ z k. below z k) ∙ sym e)
        (in_demands name_count (placed second) F D early ss ts s h may (y ∷ []) (∈-map (λ y. y ∷ []) y (received true name_count F s) r))
      where
        below : (z : ℕ) → z ∈ (y ∷ []) → z < name_count
        below z (inr x') = elim x' [ ]
        below z (inl e) = subst (λ z. z < name_count) (sym e) b

-- side_answered, side_early
module _ (arities : List ℕ) (capacity : ℕ) (work : List ℕ) (count : ℕ) (free apart : List ℕ) (second : Bool) (area : List ℕ) (n : ℕ) (others : List ℕ) (m : ℕ) (before : Relied) where
  small_objects : {differ : Bool} (p : Side differ arities capacity work count free apart second area n others m) (s : ListedStep) → s ∈ p.steps → s.object < name_count
  small_objects p s i =
      let k = ∈-number s p.steps i in
      subst (λ s. s.object < name_count) (sym (k.2 s)) (p.mine.objects k.0 s (omega (arith, k.1, p.mine.number)))

  module _ (manner : Manner) (r : Result Relied Relied) where
    pub answered-openly : manner ≡ Open → RunAnsweredIs name_count (name_count + 1) arities capacity work count free apart second area n others m before r
        → SideAnsweredIs (manner_of manner) arities capacity work count free apart second area n others m before r
    unfolding manner_of differs ReliesOn
    answered-openly e a = subst (λ k. SideAnsweredIs (manner_of k) arities capacity work count free apart second area n others m before r) (sym e)
        (same-demands work (λ p. p.known) (λ p. run_demands false name_count (name_count + 1) second (free_from p.names 0 name_count) p.pairs p.steps p.replies)
        (λ p. side_demands openly second (free_from p.names 0 name_count) p.pairs p.steps p.replies)
        (λ p w i. subst (λ ds. w ∈ ds) (sym (open_demands second p.names p.pairs p.replies p.steps)) i)
        (λ p w i. subst (λ ds. w ∈ ds) (open_demands second p.names p.pairs p.replies p.steps) i) before r a)

    pub answered_late : manner ≡ Late → RunAnsweredIs 0 name_count arities capacity work count free apart second area n others m before r
        → SideAnsweredIs (manner_of manner) arities capacity work count free apart second area n others m before r
    unfolding manner_of differs
    answered_late e a = subst (λ k. SideAnsweredIs (manner_of k) arities capacity work count free apart second area n others m before r) (sym e)
        (same-demands work (λ p. p.known) (λ p. run_demands true 0 name_count second (free_from p.names 0 name_count) p.pairs p.steps p.replies)
        (λ p. side_demands (named late) second (free_from p.names 0 name_count) p.pairs p.steps p.replies)
        (λ p. of_late second p.names p.pairs p.replies p.steps (small_objects p))
        (λ p. to_late second p.names p.pairs p.replies p.steps (small_objects p)) before r a)

    pub answered_early : manner ≡ Early → SideAnsweredIs (manner_of Early) arities capacity work count free apart second area n others m before r
        → SideAnsweredIs (manner_of manner) arities capacity work count free apart second area n others m before r
    answered_early e a = subst (λ k. SideAnsweredIs (manner_of k) arities capacity work count free apart second area n others m before r) (sym e) a

  abbrev Named : Type 0
  Named = Side true arities capacity work count free apart second area n others m

  abbrev for_name : ℕ → Named → List (List (List Situation))
  for_name y p = run_demands true y (y + 1) second (free_from p.names 0 name_count) p.pairs p.steps p.replies

  abbrev pub EarlySwept : Relied → ℕ → Type 0
  EarlySwept r y = Swept {C = Named} work (λ p. p.known) for_name before r y

  pub early_none : Numbers before → EarlySwept before 0
  early_none = swept_none {C = Named} work (λ p. p.known) for_name before

  module _ (r : Relied) (name : ℕ) (b : name < name_count) (a : Result Relied Relied)
      (h : RunAnsweredIs name (name + 1) arities capacity work count free apart second area n others m r a) where
    this : AnsweredIs Named work (λ p. p.known) (for_name name) r a
    this = subst (λ d. AnsweredIs (Side d arities capacity work count free apart second area n others m) work (λ p. p.known)
        (λ p. run_demands d name (name + 1) second (free_from p.names 0 name_count) p.pairs p.steps p.replies) r a) (lt-ltb name name_count b) h

    pub early_more : (s : Relied) → a ≡ Ok s → EarlySwept r name → EarlySwept s (name + 1)
    early_more s = swept_more {C = Named} work (λ p. p.known) for_name before r name a s this

    pub early_fails : (x : Relied) → a ≡ Err x → EarlySwept r name
        → SideAnsweredIs (manner_of Early) arities capacity work count free apart second area n others m before (Err x)
    unfolding manner_of differs
    early_fails x = swept_fails {C = Named} work (λ p. p.known) for_name
        (λ p. side_demands (named early) second (free_from p.names 0 name_count) p.pairs p.steps p.replies) before r name
        (λ p. of_early second p.names p.pairs p.replies p.steps (small_objects p) name b) a x this

  pub early_all : (r : Relied) (name : ℕ) → name_count ≤ name → EarlySwept r name
      → SideAnsweredIs (manner_of Early) arities capacity work count free apart second area n others m before (Ok r)
  unfolding manner_of differs
  early_all r name h = swept_all {C = Named} work (λ p. p.known) for_name
      (λ p. side_demands (named early) second (free_from p.names 0 name_count) p.pairs p.steps p.replies) before r name
      (λ p w i.
      let (y, b, j) = to_early second p.names p.pairs p.replies p.steps (small_objects p) w i in
      (y, omega arith, j))
