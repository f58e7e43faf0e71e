-- [Close]: a new name is sent. The sides are put together with a name that stands for nothing else; where it does not occur, the new restriction binds
-- nothing and goes (request 2026-04). Assumes nothing.
use borrow.Author.Tests.{eqb-true, eqb-false, eq-eqb, lt-ltb}
use mathlib.Core.Bool.{Bool, true, false, cond, not, ◌&&◌, true≢false}
use mathlib.Core.List.{List, [], ◌∷◌}
use mathlib.Core.Logic.{inl, inr}
use mathlib.Core.Path.{◌≡◌, refl, sym, ◌∙◌, ap, subst}
use native.Mathlib.Omega.{arith}
use Prim.Native.Nat.{ℕ, zero, suc, ◌+◌, ◌<◌}
use lib.Dec.{eqb}
use lib.ListN.{get_or}
use Rattle.calculus.specs.Abstraction.{Act, tau_a, inp_a, out_a, bout_a}
use Rattle.calculus.specs.Cond.{Cond}
use Rattle.calculus.specs.Distinction.{among}
use Rattle.calculus.specs.Free.{Free, fn}
use Rattle.calculus.specs.Term.{Term, par, res, ren, ◌•◌}
use Rattle.calculus.specs.Tidy.{outside, restrict_used, tidy}
use Rattle.calculus.proofs.FreeNames.{free_ren, ren_ext, free→fn, fn→free}
use Rattle.calculus.proofs.Renaming.{ren_id}
use Rattle.calculus.proofs.Selection.{in_among, among_in}
use Rattle.calculus.proofs.Tidying.{of_free_tidy, tidy-ren}
use Rattle.calculus.proofs.WorkingNames.{free_at}
use Rattle.terms.specs.Answer.{result}
use Rattle.terms.specs.Encoding.{InScope}
use Rattle.terms.specs.Limits.{name_count}
use Rattle.terms.specs.Question.{Question, check_of}
use Rattle.terms.specs.Question.{body_of}
use Rattle.terms.proofs.RenamingKeeps.{scope_ren}
use Rattle.steps_conditions.specs.Names.{HasNew}
use Rattle.steps_conditions.proofs.NameSlots.{new-own}
use Rattle.steps_passing.specs.Passing.{Acts, PassIs}
use Rattle.steps_passing.specs.declared.pass.Passed.{Passed}
use Rattle.steps.specs.Raw.{Candidate, step, blocked, meet, communication}
use Rattle.steps_plans.specs.Plans.{receiving}
use Rattle.steps_tallies.proofs.OwnNames.{own_part}
use Rattle.steps_tallies.specs.Candidates.{candidates}
use Rattle.steps_tallies.specs.Tally.{TallyIs}
use Rattle.steps_splicing.specs.Contexts.{Frame, left_of, right_of, beneath, fill, raised, restrictions, level_in}
use Rattle.steps_splicing.specs.Locating.{Unextruded}
use Rattle.steps_splicing.specs.PlacedResults.{Unopened}
use Rattle.steps_splicing.specs.Ready.{FoundIn}
use Rattle.steps_splicing.specs.declared.locate.Located.{Located}
use Rattle.steps_splicing.proofs.PlacedResults.{filled_result}
use Rattle.steps_placing.specs.Placing.{StandsFor, PutMetIs}
use Rattle.steps_rows.proofs.RowLaws.{row-act}
use Rattle.steps_communications.specs.Meeting.{sender_of, sends_free}
use Rattle.steps_communications.specs.Met.{ComponentsAre, sending_of, SendsNewIs, ActsAs, Communicates, TakeMetIs}
use Rattle.steps_communications.specs.declared.meet.Components.{Components}
use Rattle.steps_communications.specs.declared.meet.Node.{Node}
use Rattle.steps_communications.specs.declared.meet.Pair.{Pair}
use Rattle.steps_communications.specs.declared.meet.Partner.{Partner}
use Rattle.steps_communications.proofs.ComLaws.{scope_one_more}
use Rattle.steps_communications.proofs.MetLaws.{raised_from, Unopens, unextruded_unopens, LeftUnopens, RightUnopens, met_term, met_holes, met-numbered, met_scope}

-- What is free in a term is free in the whole, outside the restrictions around it.
free_fill : (K : List Frame) (n : ℕ) (X : Term) → Free (restrictions K + n) X → Free n (fill K X)
unfolding fill level_in
free_fill [] n X f = free_at n (0 + n) X (omega arith) f
free_fill (left_of Q ∷ K) n X f = free_fill K n (par X Q) (inl f)
free_fill (right_of P ∷ K) n X f = free_fill K n (par P X) (inr f)
free_fill (beneath ∷ K) n X f = free_fill K n (res X) (free_at (suc (restrictions K + n)) (suc (restrictions K) + n) X (omega arith) f)

-- The whole is tidied with the term.
tidy-fill : (K : List Frame) (X Y : Term) → tidy X ≡ tidy Y → tidy (fill K X) ≡ tidy (fill K Y)
unfolding fill tidy
tidy-fill [] X Y e = e
tidy-fill (left_of Q ∷ K) X Y e = tidy-fill K (par X Q) (par Y Q) (ap (λ (T : Term). par T (tidy Q)) e)
tidy-fill (right_of P ∷ K) X Y e = tidy-fill K (par P X) (par P Y) (ap (par (tidy P)) e)
tidy-fill (beneath ∷ K) X Y e = tidy-fill K (res X) (res Y) (ap restrict_used e)

-- A restriction whose name is not free goes: any name stands for it as well.
unused_goes : (y : ℕ) (Z : Term) → (Free 0 Z → ⊥) → tidy (ren (y • (λ n. n)) Z) ≡ tidy (res Z)
unfolding tidy restrict_used outside
unused_goes y Z h = tidy-ren (y • (λ n. n)) Z ∙ ren_ext (y • (λ n. n)) outside (tidy Z) away ∙ go (among (fn (tidy Z)) 0) refl
  where
    away : (n : ℕ) → Free n (tidy Z) → (y • (λ n. n)) n ≡ outside n
    away zero f = absurd (h (of_free_tidy 0 Z f))
    away (suc n) f = refl

    go : (b : Bool) → among (fn (tidy Z)) 0 ≡ b → ren outside (tidy Z) ≡ cond b (res (tidy Z)) (ren outside (tidy Z))
    go true e = absurd (h (of_free_tidy 0 Z (fn→free 0 (tidy Z) (among_in (fn (tidy Z)) 0 e))))
    go false e = refl

closed_tidy : (K : List Frame) (Z : Term) → among (fn (fill K (ren ((restrictions K + name_count) • (λ n. n)) Z))) name_count ≡ false
    → tidy (fill K (ren ((restrictions K + name_count) • (λ n. n)) Z)) ≡ tidy (fill K (res Z))
closed_tidy K Z e =
    let y = restrictions K + name_count in
    let X : Term = ren (y • (λ n. n)) Z in
    tidy-fill K X (res Z) (unused_goes y Z (λ f.
    true≢false (sym (in_among (fn (fill K X)) name_count (free→fn name_count (fill K X) (free_fill K name_count X (free_ren (y • (λ n. n)) Z 0 f)))) ∙ e)))

-- In scope with that name.
module _ (arities : List ℕ) where
  scope_fill : (K : List Frame) (X Y : Term) → (InScope name_count arities (restrictions K) X → InScope (suc name_count) arities (restrictions K) Y)
      → InScope name_count arities 0 (fill K X) → InScope (suc name_count) arities 0 (fill K Y)
  unfolding fill level_in InScope
  scope_fill [] X Y f s = f s
  scope_fill (left_of Q ∷ K) X Y f s = scope_fill K (par X Q) (par Y Q) (λ p. (f p.0, scope_one_more arities (restrictions K) Q p.1)) s
  scope_fill (right_of P ∷ K) X Y f s = scope_fill K (par P X) (par P Y) (λ p. (scope_one_more arities (restrictions K) P p.0, f p.1)) s
  scope_fill (beneath ∷ K) X Y f s =
      let e : 1 + restrictions K ≡ suc (restrictions K) = omega arith in
      scope_fill K (res X) (res Y) (λ p. subst (λ d. InScope (suc name_count) arities d Y) (sym e) (f (subst (λ d. InScope name_count arities d X) e p))) s

  closed_scope : (K : List Frame) (Z : Term) → InScope name_count arities 0 (fill K (res Z)) → InScope (suc name_count) arities 0 (fill K (ren ((restrictions K + name_count) • (λ n. n)) Z))
  unfolding InScope
  closed_scope K Z = scope_fill K (res Z) (ren ((restrictions K + name_count) • (λ n. n)) Z)
      (scope_ren name_count (suc name_count) arities (1 + restrictions K) (restrictions K) ((restrictions K + name_count) • (λ n. n)) keeps Z)
    where
      keeps : (n : ℕ) → n < 1 + restrictions K + name_count → ((restrictions K + name_count) • (λ n. n)) n < restrictions K + suc name_count
      keeps zero h = omega arith
      keeps (suc n) h = omega arith

-- The actions of the two rows.
input-row : (d : ℕ) (row : Partner) (α : Act) → ActsAs d row α → row.kind ≡ 1 → (a : ℕ) × (α ≡ inp_a a)
input-row d row α u k =
    row-act d row.kind row.channel row.object (λ (α : Act). (a : ℕ) × (α ≡ inp_a a)) (λ a _ _. (a, refl)) (λ a b l o s t. absurd (omega arith)) (λ a n l s. absurd (n k))
    α u.acts

new_row : (d : ℕ) (row : Partner) (α : Act) → ActsAs d row α → (row.kind ≡ 1 → ⊥) → sends_free d row ≡ false → (a : ℕ) × (α ≡ bout_a a)
unfolding sends_free
new_row d row α u k f =
    row-act d row.kind row.channel row.object (λ (α : Act). (a : ℕ) × (α ≡ bout_a a)) (λ a l _. absurd (k l))
    (λ a b l o s t. absurd (true≢false (sym (λ i. eq-eqb row.kind 2 l i && lt-ltb row.object (name_count + d) o i) ∙ f))) (λ a n l s. (a, refl)) α u.acts

record Closing (α : Act) (A : Term) (β : Act) (B : Term) : Type 0 where
  left : (y : ℕ) → receiving y (λ n. n) α ≡ y • (λ n. n)
  right : (y : ℕ) → receiving y (λ n. n) β ≡ y • (λ n. n)
  meets : (M₁ M₂ N : Cond) (γ : Act) (C : Term) → communication (step M₁ α A) (step M₂ β B) ≡ step N γ C → (γ ≡ tau_a) × (C ≡ res (par A B))

closes_left : (a b : ℕ) (A B : Term) → Closing (inp_a a) A (bout_a b) B
unfolding receiving communication meet
closes_left a b A B = record { left = λ y. refl; right = λ y. refl; meets = λ M₁ M₂ N γ C e. (cc, cc) }

closes_right : (a b : ℕ) (A B : Term) → Closing (bout_a a) A (inp_a b) B
unfolding receiving communication meet
closes_right a b A B = record { left = λ y. refl; right = λ y. refl; meets = λ M₁ M₂ N γ C e. (cc, cc) }

not_not : (b : Bool) → not b ≡ false → b ≡ true
not_not true e = refl
not_not false e = absurd (true≢false e)

-- The component of the sender sends a new name of its own.
new_unopens : (question : List ℕ) (part : List ℕ) (l : Located) → SendsNewIs question part l true
    → (q : Question) (accepted : check_of question ≡ result q) (at d : ℕ) (C : Term) (c : Candidate) (α : Act) → Unopens q part at d C c l α
unfolding Unopened
new_unopens question part l new q ok at d C c α = record {
  is = λ E N γ T M A own e.
      let (a, g) = new.is refl q E.term E.rest ok E.scope E.stands N γ T own in
      subst (λ (γ : Act). Unopened γ α) (sym g) tt;
}

module _ (question part tally : List ℕ) (T : TallyIs question part 1 tally) (node : Node) (pair : Pair) (both : Components) (E : ComponentsAre part tally node pair both) where
  -- Both sides, by which one sends.
  sides : (q : Question) (P : Term) (M : Cond) (W : Term) (C : Communicates question part node pair q P M W) (c : Bool) → eqb pair.left.kind 1 ≡ c
      → eqb pair.right.kind 1 ≡ not c → SendsNewIs question part (cond c both.right both.left) true
      → sends_free node.depth (cond c pair.right pair.left) ≡ false
      → LeftUnopens question part tally T node pair both E q P M W C × RightUnopens question part tally T node pair both E q P M W C
      × Closing C.left_act C.left_result C.right_act C.right_result
  unfolding Unextruded
  sides q P M W C true i t new f =
      let (a, ea) = input-row node.depth pair.left C.left_act C.left_acts (eqb-true pair.left.kind 1 i) in
      let (b, eb) = new_row node.depth pair.right C.right_act C.right_acts (eqb-false pair.right.kind 1 t) f in (
        unextruded_unopens q part (node.at + 1) node.depth C.left _ both.left C.left_act (subst Unextruded (sym ea) tt),
        new_unopens question part both.right new q C.lists.accepted E.middle node.depth C.right _ C.right_act,
        coe 0 1 (i. Closing (sym ea i) C.left_result (sym eb i) C.right_result) (closes_left a b C.left_result C.right_result),
      )
  sides q P M W C false i t new f =
      let (a, ea) = new_row node.depth pair.left C.left_act C.left_acts (eqb-false pair.left.kind 1 i) f in
      let (b, eb) = input-row node.depth pair.right C.right_act C.right_acts (eqb-true pair.right.kind 1 t) in (
        new_unopens question part both.left new q C.lists.accepted (node.at + 1) node.depth C.left _ C.left_act,
        unextruded_unopens q part E.middle node.depth C.right _ both.right C.right_act (subst Unextruded (sym eb) tt),
        coe 0 1 (i. Closing (sym ea i) C.left_result (sym eb i) C.right_result) (closes_right a b C.left_result C.right_result),
      )

  pub close_taken : (from : Located) → from ≡ sending_of pair both → (known : Bool) → not known ≡ false → SendsNewIs question part from known
      → sends_free node.depth (sender_of pair.left pair.right) ≡ false
      → (merges : Bool) (class area : List ℕ) (count r : ℕ) (area' : List ℕ)
      → PutMetIs question part (record { left = both.left; right = both.right; new = name_count; merges = merges; closes = true; number = node.number + pair.number; x = node.x }) class area count r area'
      → TakeMetIs question part (record { node = node; pair = pair; merges = merges }) class area count r area'
  unfolding sending_of sender_of StandsFor Unopened receiving
  close_taken from is known b new₀ bound merges class area count r area' put = record {
    is = λ q P M W C k.
        let K = C.frames in
        let new = coe 0 1 (i. SendsNewIs question part (is i) (not_not known b i)) new₀ in
        let (ul, ur, X) = sides q P M W C (eqb pair.left.kind 1) refl C.opposite new bound in
        let F = raised_from K (communication (step C.left_cond C.left_act C.left_result) (step C.right_cond C.right_act C.right_result)) M tau_a W C.is in
        let met = X.meets C.left_cond C.right_cond F.condition F.action F.result F.own in
        let Z : Term = par C.left_result C.right_result in
        let whole : W ≡ fill K (res Z) =
        sym (ren_id W)
        ∙ filled_result K M tau_a W 0 F.condition tau_a (res Z) ((λ i. raised K (step F.condition (sym met.0 i) (sym met.1 i))) ∙ F.is) tt
        ∙ ap (fill K) (ren_id (res Z)) in
        let y = restrictions K + name_count in
        let same : fill K (ren (y • (λ n. n)) Z) ≡ met_term question part tally T node pair both E q P M W C y =
        λ i. fill K (par (ren (sym (X.left y) i) C.left_result) (ren (sym (X.right y) i) C.right_result)) in
        let h : HasNew node.depth name_count y = subst (λ d. HasNew d name_count y) C.placed.level (new-own (restrictions K) name_count (omega arith)) in
        put.is q P C.lists M (met_term question part tally T node pair both E q P M W C y) W (met-numbered question part node pair q P M W C) k
        (met_holes question part tally T node pair both E q P M W C y name_count h ul ur)
        (subst (InScope (suc name_count) q.arities 0) same (closed_scope q.arities K Z (subst (InScope name_count q.arities 0) whole (met_scope question part node pair q P M W C))))
        (subst (λ (B : Term). among (fn B) name_count ≡ false → tidy B ≡ tidy W) same (λ e. closed_tidy K Z e ∙ ap tidy (sym whole)));
  }

-- The component of the sender is one of the part.
pub sending-found : (part tally : List ℕ) (node : Node) (pair : Pair) (both : Components) → ComponentsAre part tally node pair both
    → (from : Located) → from ≡ sending_of pair both → FoundIn part from
unfolding sending_of
sending-found part tally node pair both E from e = subst (FoundIn part) (sym e) (go (eqb pair.left.kind 1))
  where
    go : (c : Bool) → FoundIn part (cond c both.right both.left)
    go true = (E.right.deep, E.right.inside)
    go false = (E.left.deep, E.left.inside)

-- What the walk down to the prefix says.
pub sends_new : (question part : List ℕ) (l : Located) (p : Passed) → PassIs question part l.at l.depth 1 false l.number p → p.kind ≡ 3
    → SendsNewIs question part l true
unfolding candidates Acts
sends_new question part l p passed k = record {
  is = λ _ q C rest ok scope stands N γ A own.
      go γ (passed.does q name_count (λ n. n) (own_part 1) C rest ok (omega arith) scope stands N γ A (ap (λ (R : Term). get_or (candidates false (body_of q.bodies) 1 R) l.number blocked) (ren_id C) ∙ own));
}
  where
    go : (γ : Act) → Acts name_count l.depth (λ n. n) γ p.kind p.object → (a : ℕ) × (γ ≡ bout_a a)
    go tau_a e = absurd (omega arith)
    go (inp_a a) e = absurd (omega arith)
    go (out_a a b) e = let f = e.0 in absurd (omega arith)
    go (bout_a a) e = (a, refl)

pub sends_unknown : (question part : List ℕ) (l : Located) → SendsNewIs question part l false
sends_unknown question part l = record { is = λ e. absurd (true≢false (sym e)) }
