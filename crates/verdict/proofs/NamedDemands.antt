-- Members of the demands where all names differ, and that what they lead to is what exploration follows. Assumes nothing.
use mathlib.Core.Path.{◌≡◌, refl, sym, ◌∙◌, ap₂, subst}
use mathlib.Core.Bool.{true}
use mathlib.Core.List.{List, [], ◌∷◌, ◌++◌, map}
use mathlib.Core.Logic.{◌⊎◌, inl, inr}
use Prim.Native.Nat.{ℕ}
use Rattle.calculus.specs.Cond.{Pairs}
use Rattle.calculus.specs.Definitions.{Defs}
use Rattle.late_early.specs.LateEarly.{Kind, late, early}
use Rattle.calculus.specs.Term.{Term}
use Rattle.calculus.specs.Lists.{◌∈◌}
use Rattle.steps.specs.Listed.{ListedStep}
use Rattle.calculus.proofs.Membership.{∈-map, ∈-left, ∈_right}
use Rattle.field.specs.Setting.{Setting}
use Rattle.field.specs.Situation.{Situation, free_in}
use Rattle.field.specs.Successors.{select, answers, allowed, received, led, answers_to, moves}
use Rattle.field.proofs.Link.{first_moves, second_moves, ListedFor}
use Rattle.field.proofs.Members.{map-∈, ∈_either}
use Rattle.field.proofs.Moves.{∈-join, join-∈, in_moves, in_answers}
use Rattle.field.proofs.Selections.{∈-select, select-∈}
use Rattle.verdict.specs.Received.{lots, demand_of, named_moves, sides_demand, named_demands}

-- every name is in some lot, and the lots have no others
pub in_lots : (k : Kind) (zs ys : List ℕ) → ys ∈ lots k zs → (y : ℕ) → y ∈ ys → y ∈ zs
unfolding lots
in_lots late zs ys (inr x4) y i = elim x4 [ ]
in_lots late zs ys (inl e) y i = subst (λ l. y ∈ l) e i
in_lots early zs ys j y i = let (z, h, e) = map-∈ (λ y. y ∷ []) ys zs j in only z h (subst (λ l. y ∈ l) e i)
  where
    only : (z : ℕ) → z ∈ zs → y ∈ (z ∷ []) → y ∈ zs
    only z h (inr x3) = elim x3 [ ]
    only z h (inl q) = subst (λ n. n ∈ zs) (sym q) h

pub lot_of_lem : (k : Kind) (zs : List ℕ) (y : ℕ) → y ∈ zs → (ys : List ℕ) × (ys ∈ lots k zs) × (y ∈ ys)
unfolding lots
lot_of_lem late zs y i = (zs, inl refl, i)
lot_of_lem early zs y i = (y ∷ [], ∈-map (λ y. y ∷ []) y zs i, inl refl)

-- A demand is that of an allowed step and a lot of names,
module _ (names : ℕ) (make : Term → Term → Pairs → Situation) (F : List ℕ) (D : Pairs) (k : Kind) (ss ts : List ListedStep) where
  pub record DemandIs (m : List (List Situation)) : Type 0 where
    pub step : ListedStep
    pub among : step ∈ ss
    pub allowed_is : allowed true names D step ≡ true
    pub lot : List ℕ
    pub offered : lot ∈ lots k (received true names F step)
    pub is : m ≡ demand_of names make F D ts step lot

  pub of_demands : (m : List (List Situation)) → m ∈ named_moves names make F D k ss ts → DemandIs m
  unfolding named_moves
  of_demands m i =
      let us : List ListedStep = select (allowed true names D) ss in
      let (ds, a, b) = join-∈ m (map (λ s. map (demand_of names make F D ts s) (lots k (received true names F s))) us) i in
      let (s, c, d) = map-∈ (λ s. map (demand_of names make F D ts s) (lots k (received true names F s))) ds us a in
      let (ys, p, q) = map-∈ (demand_of names make F D ts s) m (lots k (received true names F s)) (subst (λ zs. m ∈ zs) d b) in
      let (e, g) = select-∈ (allowed true names D) s ss c in
      record { step = s; among = e; allowed_is = g; lot = ys; offered = p; is = q }

  -- and each such one is there.
  pub in_demands : (s : ListedStep) → s ∈ ss → allowed true names D s ≡ true → (ys : List ℕ) → ys ∈ lots k (received true names F s)
      → demand_of names make F D ts s ys ∈ named_moves names make F D k ss ts
  unfolding named_moves
  in_demands s i a ys j =
      let us : List ListedStep = select (allowed true names D) ss in
      ∈-join (demand_of names make F D ts s ys) (map (demand_of names make F D ts s) (lots k (received true names F s)))
      (map (λ s. map (demand_of names make F D ts s) (lots k (received true names F s))) us)
      (∈-map (demand_of names make F D ts s) ys (lots k (received true names F s)) j)
      (∈-map (λ s. map (demand_of names make F D ts s) (lots k (received true names F s))) s us (∈-select (allowed true names D) s ss i a))

  -- an answer of a demand
  pub record AnswerIs (s : ListedStep) (ys : List ℕ) (l : List Situation) : Type 0 where
    pub answer : ListedStep
    pub among : answer ∈ ts
    pub answers_is : answers names s answer ≡ true
    pub is : l ≡ map (led true make F D s answer) ys

  pub of_demand : (s : ListedStep) (ys : List ℕ) (l : List Situation) → l ∈ demand_of names make F D ts s ys → AnswerIs s ys l
  unfolding demand_of
  of_demand s ys l i =
      let (u, j, e) = map-∈ (λ t. map (led true make F D s t) ys) l (select (answers names s) ts) i in
      let (h, a) = select-∈ (answers names s) u ts j in
      record { answer = u; among = h; answers_is = a; is = e }

  pub in_demand : (s : ListedStep) (ys : List ℕ) (u : ListedStep) → u ∈ ts → answers names s u ≡ true
      → map (led true make F D s u) ys ∈ demand_of names make F D ts s ys
  unfolding demand_of
  in_demand s ys u i a = ∈-map (λ t. map (led true make F D s t) ys) u (select (answers names s) ts) (∈-select (answers names s) u ts i a)

  -- Where an answer leads, exploration goes.
  pub demanded : (m : List (List Situation)) → m ∈ named_moves names make F D k ss ts → (l : List Situation) → l ∈ m → (t : Situation) → t ∈ l
      → (w : List Situation) × (w ∈ moves true names make F D ss ts) × (t ∈ w)
  demanded m i l j t h =
      let d = of_demands m i in
      let a = of_demand d.step d.lot l (subst (λ m. l ∈ m) d.is j) in
      let (y, p, e) = map-∈ (led true make F D d.step a.answer) t d.lot (subst (λ l. t ∈ l) a.is h) in (
        answers_to true names make F D ts d.step y,
        in_moves true names make F D ss ts d.step d.among d.allowed_is y (in_lots k (received true names F d.step) d.lot d.offered y p),
        subst (λ u. u ∈ answers_to true names make F D ts d.step y) (sym e)
            (in_answers true names make F D ts d.step y a.answer a.among a.answers_is),
      )

-- Both sides of a situation whose lists are known.
module _ (Δ : Defs) (S : Setting) (arities : List ℕ) (s : Situation) (ms : List (List Situation)) (l : ListedFor Δ S arities s ms) (k : Kind) where
  abbrev F : List ℕ
  F = free_in S.names s.first s.second

  abbrev pub first_demands : List (List (List Situation))
  first_demands = named_moves S.names (first_moves Δ S) F s.apart k l.firsts l.seconds

  abbrev pub second_demands : List (List (List Situation))
  second_demands = named_moves S.names (second_moves Δ S) F s.apart k l.seconds l.firsts

  pub demands_are : named_demands k S s ≡ first_demands ++ second_demands
  unfolding named_demands sides_demand
  demands_are = ap₂ (sides_demand k S s) l.first_list l.second_list

  pub demanded-among : S.differ ≡ true → (m : List (List Situation)) → m ∈ named_demands k S s → (d : List Situation) → d ∈ m → (t : Situation) → t ∈ d
      → (w : List Situation) × (w ∈ ms) × (t ∈ w)
  demanded-among o m i d j t h = go (∈_either m first_demands second_demands (subst (λ zs. m ∈ zs) demands_are i))
    where
      firsts : List (List Situation)
      firsts = moves true S.names (first_moves Δ S) F s.apart l.firsts l.seconds

      seconds : List (List Situation)
      seconds = moves true S.names (second_moves Δ S) F s.apart l.seconds l.firsts

      same : firsts ++ seconds ≡ ms
      same =
          sym (l.is ∙ (λ i. moves (o i) S.names (first_moves Δ S) F s.apart l.firsts l.seconds
          ++ moves (o i) S.names (second_moves Δ S) F s.apart l.seconds l.firsts))

      go : (m ∈ first_demands) ⊎ (m ∈ second_demands) → (w : List Situation) × (w ∈ ms) × (t ∈ w)
      go (inl q) =
          let (w, a, b) = demanded S.names (first_moves Δ S) F s.apart k l.firsts l.seconds m q d j t h in
          (w, subst (λ zs. w ∈ zs) same (∈-left w firsts seconds a), b)
      go (inr q) =
          let (w, a, b) = demanded S.names (second_moves Δ S) F s.apart k l.seconds l.firsts m q d j t h in
          (w, subst (λ zs. w ∈ zs) same (∈_right w firsts seconds a), b)
