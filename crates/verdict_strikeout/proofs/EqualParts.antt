-- A situation whose two parts are equal: each of its moves is answered by itself, and that leads to equal parts again. So it survives while all such
-- are left. Assumes nothing.
use mathlib.Core.Bool.{Bool, true, false}
use mathlib.Core.List.{List, [], map}
use mathlib.Core.Logic.{◌⊎◌, inl, inr, ◌↔◌}
use mathlib.Core.Path.{◌≡◌, refl, sym, ap, ◌∙◌, subst}
use native.Mathlib.Omega.{arith}
use Prim.Native.Nat.{ℕ, ◌<◌}
use lib.ListN.{length, get_or}
use borrow.Author.Tests.{eq-eqb}
use Rattle.calculus.specs.Cond.{Pairs, Cond, cls, canonical}
use Rattle.calculus.specs.Definitions.{Defs}
use Rattle.calculus.specs.OpenBisimulation.{update}
use Rattle.calculus.specs.Published.{Action, silent, input, output, new_output, ren_action, Transition, Canon}
use Rattle.calculus.specs.Free.{Free}
use Rattle.calculus.specs.Term.{Term, ren, put}
use Rattle.late_early.specs.LateEarly.{Kind}
use Rattle.calculus.proofs.Conditions.{E1, E2}
use Rattle.calculus.proofs.PublishedBisimulation.{AwayFrom}
use Rattle.terms.specs.Answer.{result}
use Rattle.terms.specs.Encoding.{InScope}
use Rattle.terms.specs.Limits.{name_count}
use Rattle.terms.specs.Question.{Question, check_of}
use Rattle.steps.specs.Derived.{Derived}
use Rattle.steps.specs.Listed.{ListedStep}
use Rattle.calculus.specs.Lists.{◌∈◌}
use Rattle.field.specs.Field.{fresh, Move, Matches}
use Rattle.field.specs.Exploration.{found}
use Rattle.field.specs.Setting.{Setting, setting_of, steps_in}
use Rattle.field.specs.Situation.{Situation, situation, free_in, Proper}
use Rattle.field.specs.Successors.{answers, allowed, led, leads, successors}
use Rattle.field_pairs.specs.Slot.{struck_at}
use Rattle.field.proofs.Link.{first_moves, second_moves, ListOf, ListOfSome, from_first, from_second, ListedFor}
use Rattle.field.proofs.Members.{map-∈, ∈_either, get_d_∈, ∈-number}
use Rattle.field.proofs.MoveLaws.{move_rewritten}
use Rattle.field.proofs.NamedSide.{listed_performs, answers-own}
use Rattle.field.proofs.NewNames.{new_away}
use Rattle.field.proofs.Proper.{encode_same}
use Rattle.verdict_answers.specs.Striking.{left_of, SomeAnswer, EqualParts, demands_at, LeadsTo, Searching, EqualPartsIs}
use Rattle.verdict_answers.proofs.LeftLaws.{left-found}
use Rattle.verdict_answers.proofs.DemandedMoves.{Δ, linked, lists, demand_followed}
use Rattle.verdict_answers.proofs.Demands.{all-answer, each-single}
use Rattle.verdict.specs.Received.{named_moves, named_demands}
use Rattle.verdict.proofs.NamedDemands.{of_demands, in_demand, first_demands, second_demands, demands_are}
use Rattle.verdict.specs.Verdict.{Manner, openly, named, differs, demands_of, all_answered}

abbrev pub SomeEqual : List Situation → Type 0
SomeEqual w = (t : Situation) × (t ∈ w) × EqualParts t

-- To rewrite an action twice is to rewrite it once.
rewritten_twice : (σ : ℕ → ℕ) → ((n : ℕ) → σ (σ n) ≡ σ n) → (α : Action) → ren_action σ α ≡ ren_action σ (ren_action σ α)
rewritten_twice σ h silent = refl
rewritten_twice σ h (input a x) = ap (λ b. input b x) (sym (h a))
rewritten_twice σ h (output a b) = λ i. output (sym (h a) i) (sym (h b) i)
rewritten_twice σ h (new_output a x) = ap (λ b. new_output b x) (sym (h a))

action_rewritten : (Δ : Defs) {P : Term} {M : Cond} {α : Action} {P' : Term} → Transition Δ P M α P' → α ≡ ren_action (cls M) α
action_rewritten Δ (Canon {N = N} {α = α} s av) = rewritten_twice (cls (canonical N)) (E1 (canonical N)) α

module _ (Δ : Defs) (S : Setting) where
  answers-itself : {x : ℕ} {P : Term} (m : Move Δ S x P) → Matches Δ S m m
  answers-itself m = record { implied = E2 m.condition; equal = action_rewritten Δ m.transition }

  equal_among : (make : Term → Term → Pairs → Situation) → ((P : Term) (D : Pairs) → EqualParts (make P P D)) → (D : Pairs) {x : ℕ} (P Q : Term) → P ≡ Q
      → (m : Move Δ S x P) (w : List Situation) → ListOf Δ S make D Q m w → SomeEqual w
  equal_among make same D P Q e m w = subst (λ Q. ListOf Δ S make D Q m w → SomeEqual w) e here
    where
      here : ListOf Δ S make D P m w → SomeEqual w
      here l =
          let E : Pairs = update D P P m.action m.condition in
          let R : Term = ren (cls m.condition) m.result in (
            make (S.form m.result) (S.form R) E,
            (l.members (make (S.form m.result) (S.form R) E)).1 (record { answer = m; matches = answers-itself m; result = refl }),
            subst (λ R. EqualParts (make (S.form m.result) (S.form R) E)) (sym (move_rewritten Δ S m)) (same (S.form m.result) E),
          )

  pub some_equal : (s : Situation) (w : List Situation) → EqualParts s → ListOfSome Δ S s w → SomeEqual w
  unfolding situation
  some_equal s w e (from_first m l) = equal_among (first_moves Δ S) (λ P D. refl) s.apart s.first s.second e m w l
  some_equal s w e (from_second m l) = equal_among (second_moves Δ S) (λ P D. refl) s.apart s.second s.first (sym e) m w l

-- Where all names differ: one side of equal parts, whose steps are ps.
module _ (Δ : Defs) (S : Setting) (arities : List ℕ) (x : ℕ) (P : Term) (scope : InScope S.names arities 0 P) (new : ¬ Free x P) (ps : List ListedStep)
    (lists : (s : ListedStep) → (s ∈ ps) ↔ Derived S.form Δ S.names x P s) (make : Term → Term → Pairs → Situation) (same : (A : Term) → EqualParts (make A A []))
    (F : List ℕ) (D : Pairs) (k : Kind) where
  side_equal : (m : List (List Situation)) → m ∈ named_moves S.names make F D k ps ps → SomeAnswer EqualParts m
  unfolding allowed led
  side_equal m i =
      let d = of_demands S.names make F D k ps ps m i in
      let r : ListedStep = d.step in
      let o = listed_performs Δ S arities x P P scope scope new new ps ps lists lists r d.among d.allowed_is in
      let own : answers S.names r r ≡ true = subst (λ r. answers S.names r r ≡ true) (sym o.is)
      (answers-own Δ S arities x P P scope scope new new ps ps lists lists o.action o.result o.result) in (
        map (led true make F D r r) d.lot,
        subst (λ m. map (led true make F D r r) d.lot ∈ m) (sym d.is) (in_demand S.names make F D k ps ps r d.lot r d.among own),
        λ t h. let (y, j, q) = map-∈ (led true make F D r r) t d.lot h in subst EqualParts (sym q) (same (ren (put r.object y) r.result)),
      )

module _ (Δ : Defs) (S : Setting) (arities : List ℕ) (s : Situation) (proper : Proper S.names arities s) (ms : List (List Situation))
    (l : ListedFor Δ S arities s ms) (k : Kind) (equal : EqualParts s) where
  one_list : l.firsts ≡ l.seconds
  one_list = let e = sym l.first_list ∙ ap (steps_in S (fresh Δ S s)) equal ∙ l.second_list in cc

  named_equal : (m : List (List Situation)) → m ∈ named_demands k S s → SomeAnswer EqualParts m
  unfolding situation
  named_equal m i = go (∈_either m (first_demands Δ S arities s ms l k) (second_demands Δ S arities s ms l k) (subst (λ ds. m ∈ ds) (demands_are Δ S arities s ms l k) i))
    where
      F : List ℕ
      F = free_in S.names s.first s.second

      away : AwayFrom (fresh Δ S s) s.first s.second s.apart
      away = new_away S.names arities s proper

      go : (m ∈ first_demands Δ S arities s ms l k) ⊎ (m ∈ second_demands Δ S arities s ms l k) → SomeAnswer EqualParts m
      go (inl j) =
          side_equal Δ S arities (fresh Δ S s) s.first proper.first away.left l.firsts l.first_steps (first_moves Δ S) (λ A. refl) F s.apart k m
          (subst (λ qs. m ∈ named_moves S.names (first_moves Δ S) F s.apart k l.firsts qs) (sym one_list) j)
      go (inr j) =
          side_equal Δ S arities (fresh Δ S s) s.second proper.second away.right l.seconds l.second_steps (second_moves Δ S) (λ A. refl) F s.apart k m
          (subst (λ qs. m ∈ named_moves S.names (second_moves Δ S) F s.apart k l.seconds qs) one_list j)

-- Each demand on equal parts is answered by an answer that leads to equal parts only.
pub equal_answered : (question : List ℕ) (q : Question) → (accepted : check_of question ≡ result q) → (manner : Manner) (s : Situation)
    → (proper : Proper name_count q.arities s) → (ms : List (List Situation)) → successors (setting_of (differs manner) q.bodies) s ≡ leads ms → EqualParts s
    → (m : List (List Situation)) → m ∈ demands_at manner q s ms → SomeAnswer EqualParts m
unfolding demands_of differs setting_of
equal_answered question q accepted openly s proper ms lead e =
    let S : Setting = setting_of false q.bodies in
    each-single EqualParts ms (λ w k. some_equal (Δ question q accepted) S s w e (((linked question q accepted openly s proper).open_given refl ms lead).each w k))
equal_answered question q accepted (named k) s proper ms lead e =
    named_equal (Δ question q accepted) (setting_of true q.bodies) q.arities s proper ms (lists question q accepted k s proper ms lead) k e

module _ (manner : Manner) (question : List ℕ) (capacity count : ℕ) (work : List ℕ) (f : Searching manner question capacity work count) (i : ℕ) (d : Situation) (below : i < count) where
  abbrev known : List Situation
  known = f.field.known

  abbrev here : Situation
  here = get_or known i d

  there : here ∈ known
  there = get_d_∈ known i d (omega (arith, f.field.number))

  pub equal_survives : EqualParts here → (ms : List (List Situation)) → LeadsTo f.field i d ms
      → all_answered (left_of work known) (demands_at manner f.field.read here ms) ≡ true
  equal_survives e ms l = all-answer (left_of work known) (demands_at manner f.field.read here ms) each
    where
      held : (t : Situation) → EqualParts t → (a : ℕ) × (a < length known) × ((d : Situation) → t ≡ get_or known a d) → found (left_of work known) t ≡ true
      held t p (a, b, x) =
          left-found work known f.field.standing a t d b (sym (x d))
          ∙ eq-eqb (get_or work (struck_at a) 0) 0 (f.equal a d (omega (arith, f.field.number)) (subst EqualParts (x d) p))

      each : (m : List (List Situation)) → m ∈ demands_at manner f.field.read here ms → SomeAnswer (λ t. found (left_of work known) t ≡ true) m
      each m k =
          let q = f.field.equal here there e in
          let same : ms ≡ q.wants = cc q.leading in
          let (o, j, p) = q.some m (subst (λ ms. m ∈ demands_at manner f.field.read here ms) same k) in (
            o,
            j,
            λ t h.
                let (w, a, b) = demand_followed question f.field.read f.field.accepted manner here (f.field.proper here there) ms l m k o j t h in
                held t (p t h) (∈-number t known (f.field.closed here there ms l w a t b)),
          )

  -- the same bytes are the same term
  pub equal_bytes : {r : Bool} → EqualPartsIs work i r → r ≡ true → EqualParts here
  unfolding EqualPartsIs
  equal_bytes same e =
      encode_same name_count (omega arith) f.field.read.arities here.first here.second (f.field.proper here there).first (f.field.proper here there).second
      (same e here (f.field.standing.held i d (omega (arith, f.field.number))))
