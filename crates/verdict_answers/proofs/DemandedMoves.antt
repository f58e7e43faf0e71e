-- What is demanded of a situation, and what it leads to, in each manner of judging: an answer to a demand leads where exploration went, and to every
-- move belongs a demand whose answers all lead to situations of that move. Assumes nothing.
use mathlib.Core.Bool.{true, false}
use mathlib.Core.List.{List, [], ◌∷◌, ◌++◌, map}
use mathlib.Core.Logic.{◌⊎◌, inl, inr}
use mathlib.Core.Path.{◌≡◌, refl, sym, ◌∙◌, ap, subst}
use native.Mathlib.Decide.{ℕ_discrete}
use native.Mathlib.Omega.{arith}
use Prim.Native.Nat.{ℕ, ◌<◌}
use borrow.Author.Tests.{eq-eqb, ne_eqb}
use Rattle.calculus.specs.Cond.{Pairs}
use Rattle.calculus.specs.Definitions.{Defs}
use Rattle.calculus.specs.Free.{In}
use Rattle.calculus.specs.Published.{Action, silent, input, output, new_output, bound_names}
use Rattle.calculus.specs.Term.{Term}
use Rattle.late_early.specs.LateEarly.{Kind, late, early}
use Rattle.terms.specs.Answer.{result}
use Rattle.terms.specs.Limits.{name_count}
use Rattle.terms.specs.Question.{Question, check_of}
use Rattle.terms.proofs.WellFormed.{WellFormed, accepted_well_formed}
use Rattle.calculus.specs.Lists.{◌∈◌}
use Rattle.steps.specs.Derived.{Derived}
use Rattle.steps.specs.Listed.{ListedStep, kind_of, object_of, listed_as}
use Rattle.calculus.proofs.Membership.{∈-map, ∈-left, ∈_right}
use Rattle.steps.proofs.QuestionDefinitions.{definitions}
use Rattle.field.specs.Field.{fresh}
use Rattle.field.specs.Setting.{Setting, setting_of}
use Rattle.field.specs.Situation.{Situation, free_in, Proper}
use Rattle.field.specs.Successors.{received, led, answers_to, moves, leads, successors}
use Rattle.field.proofs.Link.{SettingFor, first_moves, second_moves, ListedFor, Linked}
use Rattle.field.proofs.Members.{map-∈, ∈_either}
use Rattle.field.proofs.Moves.{of_moves, in_moves, of_answers, in_answers}
use Rattle.field.proofs.Proper.{from_free}
use Rattle.field.proofs.QuestionField.{question_setting}
use Rattle.field.proofs.SuccessorsLinked.{successors_linked}
use Rattle.field_growth.specs.Holding.{unanswered}
use Rattle.verdict.specs.Received.{lots, demand_of, named_moves, named_demands}
use Rattle.verdict.specs.Verdict.{Manner, openly, named, differs, demands_of}
use Rattle.verdict.proofs.NamedDemands.{in_lots, lot_of_lem, of_demands, in_demands, of_demand, in_demand, first_demands, second_demands, demands_are, demanded-among}
use Rattle.verdict.proofs.RelatedVerdicts.{question_defines}
use Rattle.verdict.proofs.Rounds.{true_not_false, single}
use Rattle.verdict_answers.specs.Striking.{demands_at}

-- The demand m is answered only by situations of the move w.
abbrev pub Within : List (List Situation) → List Situation → Type 0
Within m w = (l : List Situation) → l ∈ m → (t : Situation) × (t ∈ l) × (t ∈ w)

-- some move has an answer
some-answer : (ms : List (List Situation)) → unanswered ms ≡ false → (w : List Situation) → w ∈ ms → (t : Situation) × (t ∈ w)
unfolding unanswered
some-answer [] e w i = elim i [ ]
some-answer ([] ∷ ms) e w i = true_not_false refl e
some-answer ((t ∷ v) ∷ ms) e w (inl d) = (t, subst (λ w. t ∈ w) (sym d) (inl refl))
some-answer ((t ∷ v) ∷ ms) e w (inr i) = some-answer ms e w i

-- a lot of a list that is not empty
some-name : (k : Kind) (zs ys : List ℕ) → ys ∈ lots k zs → (z : ℕ) → z ∈ zs → (y : ℕ) × (y ∈ ys)
unfolding lots
some-name late zs ys (inr x4) z i = elim x4 [ ]
some-name late zs ys (inl e) z i = (z, subst (λ l. z ∈ l) (sym e) i)
some-name early zs ys j z i = let (y, h, e) = map-∈ (λ y. y ∷ []) ys zs j in (y, subst (λ l. y ∈ l) (sym e) (inl refl))

-- some name is received, if the object is one of the names
pub some-received : (names : ℕ) (F : List ℕ) (s : ListedStep) → (s.kind ≡ 1 → s.object < names) → s.object ∈ received true names F s
unfolding received
some-received names F s h = go (ℕ_discrete s.kind 1)
  where
    go : Dec (s.kind ≡ 1) → s.object ∈ received true names F s
    go (yes e) = rw (eq-eqb s.kind 1 e) (from_free (s.object ∷ F) 0 names s.object (inl refl) (omega arith) (omega (arith, h e)))
    go (no e) = rw (ne_eqb s.kind 1 e) (inl refl)

-- One side, where all names differ.
module _ (names : ℕ) (make : Term → Term → Pairs → Situation) (F : List ℕ) (D : Pairs) (k : Kind) (ss ts : List ListedStep) where
  move_demand : (w : List Situation) → w ∈ moves true names make F D ss ts
      → (m : List (List Situation)) × (m ∈ named_moves names make F D k ss ts) × Within m w
  move_demand w i =
      let o = of_moves true names make F D ss ts w i in
      let (ys, j, h) = lot_of_lem k (received true names F o.step) o.name o.offered in (
        demand_of names make F D ts o.step ys,
        in_demands names make F D k ss ts o.step o.among o.allowed_is ys j,
        λ l g.
            let a = of_demand names make F D k ss ts o.step ys l g in (
              led true make F D o.step a.answer o.name,
              subst (λ l. led true make F D o.step a.answer o.name ∈ l) (sym a.is) (∈-map (led true make F D o.step a.answer) o.name ys h),
              subst (λ w. led true make F D o.step a.answer o.name ∈ w) (sym o.is)
                  (in_answers true names make F D ts o.step o.name a.answer a.among a.answers_is),
            ),
      )

  -- a demand has an answer if each move has one
  demand_answer : ((s : ListedStep) → s ∈ ss → s.kind ≡ 1 → s.object < names) → (m : List (List Situation)) → m ∈ named_moves names make F D k ss ts
      → ((w : List Situation) → w ∈ moves true names make F D ss ts → (t : Situation) × (t ∈ w)) → (l : List Situation) × (l ∈ m)
  demand_answer small m i some =
      let d = of_demands names make F D k ss ts m i in
      let zs : List ℕ = received true names F d.step in
      let (y, j) = some-name k zs d.lot d.offered d.step.object (some-received names F d.step (small d.step d.among)) in
      let (t, h) = some (answers_to true names make F D ts d.step y)
      (in_moves true names make F D ss ts d.step d.among d.allowed_is y (in_lots k zs d.lot d.offered y j)) in
      let a = of_answers true names make F D ts d.step y t h in (
        map (led true make F D d.step a.answer) d.lot,
        subst (λ m. map (led true make F D d.step a.answer) d.lot ∈ m) (sym d.is)
            (in_demand names make F D k ss ts d.step d.lot a.answer a.among a.answers_is),
      )

-- the name that an input receives is the new one
input_object : (x : ℕ) (α : Action) → ((y : ℕ) → In y (bound_names α) → y ≡ x) → kind_of α ≡ 1 → object_of α ≡ x
unfolding kind_of object_of
input_object x silent b e = absurd (omega arith)
input_object x (input a y) b e = b y (inl refl)
input_object x (output a c) b e = absurd (omega arith)
input_object x (new_output a y) b e = absurd (omega arith)

module _ (form : Term → Term) (Δ : Defs) (names x : ℕ) (P : Term) (s : ListedStep) (d : Derived form Δ names x P s) where
  derived_object : s.kind ≡ 1 → s.object ≡ x
  unfolding listed_as
  derived_object e = ap (λ u. u.object) d.listed ∙ input_object x d.action d.binds (sym (ap (λ u. u.kind) d.listed) ∙ e)

-- A situation of an accepted question.
module _ (question : List ℕ) (q : Question) (accepted : check_of question ≡ result q) where
  pub well : WellFormed q
  well = accepted_well_formed question q accepted

  unfoldable pub Δ : Defs
  Δ = definitions q.arities q.bodies well.bodies

  module _ (manner : Manner) where
    abbrev S : Setting
    S = setting_of (differs manner) q.bodies

    pub setting : SettingFor Δ S q.arities
    unfolding Δ
    setting = let d = question_defines q well.bodies in question_setting (differs manner) q well Δ d.arities d.bodies

    module _ (s : Situation) (proper : Proper name_count q.arities s) where
      pub linked : Linked Δ S q.arities s
      unfolding setting_of
      linked = successors_linked Δ S q.arities setting s proper

  -- where all names differ
  module _ (k : Kind) (s : Situation) (proper : Proper name_count q.arities s) (ms : List (List Situation))
      (lead : successors (setting_of true q.bodies) s ≡ leads ms) where
    abbrev T : Setting
    T = setting_of true q.bodies

    naming : T.differ ≡ true
    unfolding setting_of
    naming = refl

    pub lists : ListedFor Δ T q.arities s ms
    unfolding differs
    lists = (linked (named k) s proper).lists ms lead

    abbrev F : List ℕ
    F = free_in T.names s.first s.second

    abbrev of_first : List (List Situation)
    of_first = moves true T.names (first_moves Δ T) F s.apart lists.firsts lists.seconds

    abbrev of_second : List (List Situation)
    of_second = moves true T.names (second_moves Δ T) F s.apart lists.seconds lists.firsts

    same : ms ≡ of_first ++ of_second
    same =
        lists.is ∙ (λ i. moves (naming i) T.names (first_moves Δ T) F s.apart lists.firsts lists.seconds
        ++ moves (naming i) T.names (second_moves Δ T) F s.apart lists.seconds lists.firsts)

    abbrev those : List (List (List Situation))
    those = first_demands Δ T q.arities s ms lists k ++ second_demands Δ T q.arities s ms lists k

    are : named_demands k T s ≡ those
    are = demands_are Δ T q.arities s ms lists k

    named_move : (w : List Situation) → w ∈ ms → (m : List (List Situation)) × (m ∈ named_demands k T s) × Within m w
    named_move w i = go (∈_either w of_first of_second (subst (λ ms. w ∈ ms) same i))
      where
        go : (w ∈ of_first) ⊎ (w ∈ of_second) → (m : List (List Situation)) × (m ∈ named_demands k T s) × Within m w
        go (inl j) =
            let (m, a, b) = move_demand T.names (first_moves Δ T) F s.apart k lists.firsts lists.seconds w j in
            (m, subst (λ ds. m ∈ ds) (sym are) (∈-left m (first_demands Δ T q.arities s ms lists k) (second_demands Δ T q.arities s ms lists k) a), b)
        go (inr j) =
            let (m, a, b) = move_demand T.names (second_moves Δ T) F s.apart k lists.seconds lists.firsts w j in
            (m, subst (λ ds. m ∈ ds) (sym are) (∈_right m (first_demands Δ T q.arities s ms lists k) (second_demands Δ T q.arities s ms lists k) a), b)

    small : (r : ListedStep) → (r ∈ lists.firsts) ⊎ (r ∈ lists.seconds) → r.kind ≡ 1 → r.object < T.names
    small r (inl i) e = let o = derived_object T.form Δ T.names (fresh Δ T s) s.first r ((lists.first_steps r).0 i) e in omega (arith, o, lists.receives r (inl i) e)
    small r (inr i) e = let o = derived_object T.form Δ T.names (fresh Δ T s) s.second r ((lists.second_steps r).0 i) e in omega (arith, o, lists.receives r (inr i) e)

    named-answer : unanswered ms ≡ false → (m : List (List Situation)) → m ∈ named_demands k T s → (l : List Situation) × (l ∈ m)
    named-answer u m i =
        go (∈_either m (first_demands Δ T q.arities s ms lists k) (second_demands Δ T q.arities s ms lists k) (subst (λ ds. m ∈ ds) are i))
      where
        some : (w : List Situation) → w ∈ (of_first ++ of_second) → (t : Situation) × (t ∈ w)
        some w j = some-answer ms u w (subst (λ ms. w ∈ ms) (sym same) j)

        go : (m ∈ first_demands Δ T q.arities s ms lists k) ⊎ (m ∈ second_demands Δ T q.arities s ms lists k) → (l : List Situation) × (l ∈ m)
        go (inl j) =
            demand_answer T.names (first_moves Δ T) F s.apart k lists.firsts lists.seconds (λ r h. small r (inl h)) m j
            (λ w h. some w (∈-left w of_first of_second h))
        go (inr j) =
            demand_answer T.names (second_moves Δ T) F s.apart k lists.seconds lists.firsts (λ r h. small r (inr h)) m j
            (λ w h. some w (∈_right w of_first of_second h))

  -- in each manner
  pub move_demanded : (manner : Manner) (s : Situation) → Proper name_count q.arities s → (ms : List (List Situation))
      → successors (setting_of (differs manner) q.bodies) s ≡ leads ms → (w : List Situation) → w ∈ ms
      → (m : List (List Situation)) × (m ∈ demands_at manner q s ms) × Within m w
  unfolding demands_of differs
  move_demanded openly s proper ms lead w i = (
    map single w,
    ∈-map (map single) w ms i,
    λ l j. let (t, h, e) = map-∈ single l w j in (t, subst (λ l. t ∈ l) (sym e) (inl refl), h),
  )
  move_demanded (named k) s proper ms lead w i = named_move k s proper ms lead w i

  pub demand_followed : (manner : Manner) (s : Situation) → Proper name_count q.arities s → (ms : List (List Situation))
      → successors (setting_of (differs manner) q.bodies) s ≡ leads ms → (m : List (List Situation)) → m ∈ demands_at manner q s ms
      → (l : List Situation) → l ∈ m → (t : Situation) → t ∈ l → (w : List Situation) × (w ∈ ms) × (t ∈ w)
  unfolding demands_of differs
  demand_followed openly s proper ms lead m i l j t h =
      let (w, a, e) = map-∈ (map single) m ms i in
      let (u, b, g) = map-∈ single l w (subst (λ m. l ∈ m) e j) in
      (w, a, only u w b (subst (λ l. t ∈ l) g h))
    where
      only : (u : Situation) (w : List Situation) → u ∈ w → t ∈ single u → t ∈ w
      only u w b (inr x6) = elim x6 [ ]
      only u w b (inl c) = subst (λ u. u ∈ w) (sym c) b
  demand_followed (named k) s proper ms lead m i l j t h =
      demanded-among Δ (setting_of true q.bodies) q.arities s ms (lists k s proper ms lead) k (naming k s proper ms lead) m i l j t h

  pub demand_answered : (manner : Manner) (s : Situation) → Proper name_count q.arities s → (ms : List (List Situation))
      → successors (setting_of (differs manner) q.bodies) s ≡ leads ms → unanswered ms ≡ false → (m : List (List Situation)) → m ∈ demands_at manner q s ms
      → (l : List Situation) × (l ∈ m)
  unfolding demands_of differs
  demand_answered openly s proper ms lead u m i =
      let (w, a, e) = map-∈ (map single) m ms i in
      let (t, b) = some-answer ms u w a in
      (single t, subst (λ m. single t ∈ m) (sym e) (∈-map single t w b))
  demand_answered (named k) s proper ms lead u m i = named-answer k s proper ms lead u m i
