-- [Com]: a free name is sent, and nothing is extruded. Assumes nothing.
use borrow.Author.Tests.{eqb-true, ltb-true}
use mathlib.Core.Bool.{Bool, true, false, cond, not, ◌&&◌}
use mathlib.Core.List.{List}
use mathlib.Core.Path.{◌≡◌, refl, sym, ◌∙◌, ap, subst}
use native.Mathlib.Omega.{arith}
use Prim.Native.Nat.{ℕ, suc, ◌+◌, ◌<◌}
use lib.Dec.{eqb, ltb}
use Rattle.calculus.specs.Abstraction.{Act, tau_a, inp_a}
use Rattle.calculus.specs.Cond.{Cond}
use Rattle.calculus.specs.Term.{Term, par, ren, inst}
use Rattle.calculus.proofs.Renaming.{ren_id}
use Rattle.terms.specs.Encoding.{InScope}
use Rattle.terms.specs.Limits.{name_count}
use Rattle.terms.proofs.Answers.{both_true}
use Rattle.terms.proofs.RenamingKeeps.{scope_ren}
use Rattle.steps_conditions.specs.Labels.{action_of, ActionBelow}
use Rattle.steps_conditions.specs.Names.{HasNew}
use Rattle.steps_conditions.specs.Slots.{slot_of}
use Rattle.steps_entries.specs.StepActions.{step_action}
use Rattle.steps.specs.Raw.{step, meet, communication}
use Rattle.steps_plans.specs.Plans.{receiving}
use Rattle.steps_tallies.specs.Tally.{TallyIs}
use Rattle.steps_splicing.specs.Contexts.{fill, raised}
use Rattle.steps_splicing.specs.Locating.{Unextruded, table_slot}
use Rattle.steps_splicing.specs.PlacedResults.{Unopened}
use Rattle.steps_splicing.proofs.PlacedResults.{filled_result}
use Rattle.steps_placing.specs.Placing.{StandsFor, PutClassedIs, PutMetIs}
use Rattle.steps_rows.specs.Rows.{row_action}
use Rattle.steps_rows.proofs.RowLaws.{row-act}
use Rattle.steps_communications.specs.Meeting.{sender_of, sends_free}
use Rattle.steps_communications.specs.Met.{ComponentsAre, ActsAs, TakeMetIs}
use Rattle.steps_communications.specs.declared.meet.Components.{Components}
use Rattle.steps_communications.specs.declared.meet.Node.{Node}
use Rattle.steps_communications.specs.declared.meet.Pair.{Pair}
use Rattle.steps_communications.specs.declared.meet.Partner.{Partner}
use Rattle.steps_communications.proofs.MetLaws.{raised_from, new_sent, unextruded_unopens, met_holes, met-numbered, met_scope}

-- [Com]: both results, where y is the name that is sent.
record Com (d : ℕ) (α : Act) (A : Term) (β : Act) (B : Term) (object : ℕ) : Type 0 where
  y : ℕ
  sent : slot_of name_count d y ≡ object
  below : y < d + name_count
  left : Unextruded α
  right : Unextruded β
  meets : (M₁ M₂ N : Cond) (γ : Act) (C : Term) → communication (step M₁ α A) (step M₂ β B) ≡ step N γ C
      → (γ ≡ tau_a) × (C ≡ par (ren (receiving y (λ n. n) α) A) (ren (receiving y (λ n. n) β) B))

module _ (a b : Partner) (d : ℕ) (α : Act) (A : Term) (β : Act) (B : Term) (ea : action_of d α ≡ row_action d a.kind a.channel a.object)
    (eb : action_of d β ≡ row_action d b.kind b.channel b.object) where
  com_left : a.kind ≡ 1 → b.kind ≡ 2 → b.object < name_count + d → ActionBelow (d + name_count) β → Com d α A β B b.object
  unfolding ActionBelow Unextruded receiving communication meet
  com_left k l o below =
      row-act d a.kind a.channel a.object (λ α. Com d α A β B b.object)
      (λ c h s. row-act d b.kind b.channel b.object (λ β. ActionBelow (d + name_count) β → Com d (inp_a c) A β B b.object)
      (λ e h s w. absurd (omega arith))
      (λ e y h o s t w. record {
        y = y;
        sent = t;
        below = w.1;
        left = tt;
        right = tt;
        meets = λ M₁ M₂ N γ C z. let f : par (ren (inst y) A) B ≡ C = cc in (cc, sym f ∙ ap (λ (D : Term). par (ren (inst y) A) D) (sym (ren_id B)));
      })
      (λ e h n s w. absurd (omega (arith, n l))) β eb below)
      (λ c e h l s t. absurd (omega arith)) (λ c h n s. absurd (h k)) α ea

  com_right : a.kind ≡ 2 → b.kind ≡ 1 → a.object < name_count + d → ActionBelow (d + name_count) α → Com d α A β B a.object
  unfolding ActionBelow Unextruded receiving communication meet
  com_right k l o below =
      row-act d b.kind b.channel b.object (λ β. Com d α A β B a.object)
      (λ c h s. row-act d a.kind a.channel a.object (λ α. ActionBelow (d + name_count) α → Com d α A (inp_a c) B a.object)
      (λ e h s w. absurd (omega arith))
      (λ e y h o s t w. record {
        y = y;
        sent = t;
        below = w.1;
        left = tt;
        right = tt;
        meets = λ M₁ M₂ N γ C z. let f : par A (ren (inst y) B) ≡ C = cc in (cc, sym f ∙ ap (λ (D : Term). par D (ren (inst y) B)) (sym (ren_id A)));
      })
      (λ e h n s w. absurd (omega (arith, n k))) α ea below)
      (λ c e h n s t. absurd (omega arith)) (λ c h n s. absurd (h l)) β eb

-- By the row that sends.
com_of : (a b : Partner) (d : ℕ) (c : Bool) → eqb a.kind 1 ≡ c → eqb b.kind 1 ≡ not c → (α : Act) (A : Term) (β : Act) (B : Term)
    → ActsAs d a α → ActsAs d b β → eqb (cond c b a).kind 2 && ltb (cond c b a).object (name_count + d) ≡ true → Com d α A β B (cond c b a).object
com_of a b d true i t α A β B g v z =
    let (y, o) = both_true (eqb b.kind 2) (ltb b.object (name_count + d)) z in
    com_left a b d α A β B g.acts v.acts (eqb-true a.kind 1 i) (eqb-true b.kind 2 y) (ltb-true b.object (name_count + d) o) v.below
com_of a b d false i t α A β B g v z =
    let (y, o) = both_true (eqb a.kind 2) (ltb a.object (name_count + d)) z in
    com_right a b d α A β B g.acts v.acts (eqb-true a.kind 2 y) (eqb-true b.kind 1 t) (ltb-true a.object (name_count + d) o) g.below

-- One more name may be free.
pub scope_one_more : (arities : List ℕ) (d : ℕ) (P : Term) → InScope name_count arities d P → InScope (suc name_count) arities d P
scope_one_more arities d P s = subst (InScope (suc name_count) arities d) (ren_id P) (scope_ren name_count (suc name_count) arities d d (λ n. n) (λ n h. omega arith) P s)

module _ (question part : List ℕ) (node : Node) (pair : Pair) (merges : Bool) (class area : List ℕ) (count r : ℕ) (area' : List ℕ) where
  pub com_taken : (tally : List ℕ) → TallyIs question part 1 tally → (both : Components) → ComponentsAre part tally node pair both
      → (from : Partner) → from ≡ sender_of pair.left pair.right → sends_free node.depth (sender_of pair.left pair.right) ≡ true
      → (new : ℕ) → new ≡ table_slot from.object
      → PutMetIs question part (record { left = both.left; right = both.right; new = new; merges = merges; closes = false; number = node.number + pair.number; x = node.x }) class area count r area'
      → TakeMetIs question part (record { node = node; pair = pair; merges = merges }) class area count r area'
  unfolding sender_of sends_free StandsFor Unopened receiving
  com_taken tally T both E from is free new slot put = record {
    is = λ q P M W C k.
        let K = C.frames in
        let d = node.depth in
        let X = com_of pair.left pair.right d (eqb pair.left.kind 1) refl C.opposite C.left_act C.left_result C.right_act C.right_result C.left_acts C.right_acts free in
        let F = raised_from K (communication (step C.left_cond C.left_act C.left_result) (step C.right_cond C.right_act C.right_result)) M tau_a W C.is in
        let result = X.meets C.left_cond C.right_cond F.condition F.action F.result F.own in
        let sides : Term = par (ren (receiving X.y (λ n. n) C.left_act) C.left_result) (ren (receiving X.y (λ n. n) C.right_act) C.right_result) in
        let whole : W ≡ fill K sides =
        sym (ren_id W)
        ∙ filled_result K M tau_a W 0 F.condition tau_a sides ((λ i. raised K (step F.condition (sym result.0 i) (sym result.1 i))) ∙ F.is) tt
        ∙ ap (fill K) (ren_id sides) in
        let h = subst (λ (n : ℕ). HasNew d n X.y) (sym (slot ∙ ap (λ (p : Partner). table_slot p.object) is)) (new_sent d X.y (sender_of pair.left pair.right).object X.sent X.below) in
        put.is q P C.lists M (fill K sides) W (met-numbered question part node pair q P M W C) k
        (met_holes question part tally T node pair both E q P M W C X.y new h (unextruded_unopens _ _ _ _ _ _ _ _ X.left) (unextruded_unopens _ _ _ _ _ _ _ _ X.right))
        (subst (InScope (suc name_count) q.arities 0) whole (scope_one_more q.arities 0 W (met_scope question part node pair q P M W C)))
        (sym whole);
  }

  -- By its number, whatever is sent.
  pub numbered-taken : PutClassedIs question part true (node.number + pair.number) class (record { kind = 0; channel = 0; object = 0 }) node.x area count r area'
      → TakeMetIs question part (record { node = node; pair = pair; merges = merges }) class area count r area'
  unfolding step_action
  numbered-taken put = record { is = λ q P M W C k. put.is q P C.lists M tau_a W (met-numbered question part node pair q P M W C) k.classes refl }

-- The slot of a free name that is sent.
pub free_slot : (d : ℕ) (from row : Partner) → from ≡ row → sends_free d row ≡ true → from.object < name_count + d
unfolding sends_free
free_slot d from row e f =
    subst (λ (p : Partner). p.object < name_count + d) (sym e)
    (ltb-true row.object (name_count + d) (both_true (eqb row.kind 2) (ltb row.object (name_count + d)) f).1)
