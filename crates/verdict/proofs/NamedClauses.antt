-- The demands that are made of one side's steps and the other's where all names differ are clauses (i) and (ii) of Definitions 7 and 9, with the
-- received names that are enough: if each is met, the side's transitions are answered, and bisimilar parts meet each. Assumes nothing.
use mathlib.Core.Path.{◌≡◌, refl, sym, ◌∙◌, ap, subst, subst₂}
use mathlib.Core.Bool.{true}
use mathlib.Core.List.{List, [], ◌∷◌, map}
use mathlib.Core.Logic.{◌≢◌, inl, inr, ◌↔◌}
use Prim.Native.Nat.{ℕ}
use native.Mathlib.Omega.{arith}
use Rattle.calculus.specs.Abstraction.{Act, tau_a, inp_a, out_a, bout_a}
use Rattle.calculus.specs.Term.{Term, ren, put}
use Rattle.calculus.specs.Free.{In, Free}
use Rattle.calculus.specs.Cond.{Pairs}
use Rattle.calculus.specs.Definitions.{Defs}
use Rattle.calculus.specs.Published.{Action, silent, input, output, new_output, bound_names}
use Rattle.late_early.specs.Concrete.{Concrete}
use Rattle.late_early.specs.LateEarly.{Kind, late, early, ReceivedAs, AnsweredAs, Bisimilar}
use Rattle.calculus.proofs.PublishedSteps.{named}
use Rattle.late_early.proofs.ReceivedNames.{Offered, Found}
use Rattle.terms.specs.Encoding.{InScope}
use Rattle.calculus.specs.Lists.{◌∈◌}
use Rattle.calculus.proofs.Membership.{∈-map}
use Rattle.steps.specs.Derived.{Derived}
use Rattle.steps.proofs.FormLaws.{Form}
use Rattle.steps.specs.Listed.{ListedStep, kind_of, object_of, listed_as}
use Rattle.field.specs.Setting.{Setting}
use Rattle.field.specs.Situation.{Situation}
use Rattle.field.specs.Successors.{allowed, received, led}
use Rattle.field.proofs.Members.{map-∈}
use Rattle.field.proofs.Moves.{put_same}
use Rattle.field.proofs.NamedSide.{avoids, step-listed, own-step, listed_answer, answer-listed, answers-own, listed_performs}
use Rattle.verdict.specs.Received.{lots, demand_of, named_moves}
use Rattle.verdict.proofs.NamedDemands.{of_demands, in_demands, of_demand, in_demand}
use Rattle.verdict.proofs.Rounds.{Met}

module _ (Δ : Defs) (S : Setting) (formed : Form S.form) (arities : List ℕ) (x : ℕ) (P Q : Term) (scope : InScope S.names arities 0 P) (scope' : InScope S.names arities 0 Q)
    (new : ¬ Free x P) (new' : ¬ Free x Q) (ps qs : List ListedStep)
    (lists : (s : ListedStep) → (s ∈ ps) ↔ Derived S.form Δ S.names x P s) (lists' : (s : ListedStep) → (s ∈ qs) ↔ Derived S.form Δ S.names x Q s)
    (make : Term → Term → Pairs → Situation) (F : List ℕ) (D : Pairs)
    (offers : (a : ℕ) (R : Term) → listed_as S.names [] (input a x) R ∈ ps → (y : ℕ) → Offered Δ P Q x y
    → y ∈ received true S.names F (listed_as S.names [] (input a x) R)) where
  abbrev step : Action → Term → ListedStep
  step α R = listed_as S.names [] α (S.form R)

  -- where a step by α and its answer lead, with the name y received
  abbrev received-at : Action → ℕ → Term → Term → Situation
  received-at α y A B = make (S.form (ren (put (object_of α) y) A)) (S.form (ren (put (object_of α) y) B)) []

  rewritten : (α : Action) (y : ℕ) (A B : Term) → make (ren (put (object_of α) y) (S.form A)) (ren (put (object_of α) y) (S.form B)) [] ≡ received-at α y A B
  rewritten α y A B = λ i. make (sym (formed.renamed (put (object_of α) y) A) i) (sym (formed.renamed (put (object_of α) y) B) i) []

  abbrev BindsNew : Action → Type 0
  BindsNew α = (y : ℕ) → In y (bound_names α) → y ≡ x

  listed : (α : Action) (R : Term) → Concrete Δ P α R → BindsNew α → step α R ∈ ps
  listed = step-listed Δ S arities x P Q scope scope' new new' ps qs lists lists'

  allowed-step : (α : Action) (R : Term) → allowed true S.names D (step α R) ≡ true
  unfolding allowed
  allowed-step = own-step Δ S arities x P Q scope scope' new new' ps qs lists lists'

  abbrev AllMet {ℓ} : Kind → (Situation → Type ℓ) → Type ℓ
  AllMet k L = (w : List (List Situation)) → w ∈ named_moves S.names make F D k ps qs → Met L w

  -- If each demand is met, the side's transitions are answered within L.
  module _ (k : Kind) (L : Situation → Type 0) (met : AllMet k L) where
    record Answer (α : Action) (R : Term) (ys : List ℕ) : Type 0 where
      result : Term
      transition : Concrete Δ Q α result
      all : (y : ℕ) → y ∈ ys → L (received-at α y R result)

    demand_met : (α : Action) (R : Term) → Concrete Δ P α R → BindsNew α → (ys : List ℕ) → ys ∈ lots k (received true S.names F (step α R)) → Answer α R ys
    unfolding led listed_as
    demand_met α R t b ys i =
        let s : ListedStep = step α R in
        let m = met (demand_of S.names make F D qs s ys) (in_demands S.names make F D k ps qs s (listed α R t b) (allowed-step α R) ys i) in
        let u = of_demand S.names make F D k ps qs s ys m.answer m.member in
        let c = listed_answer Δ S arities x P Q scope scope' new new' ps qs lists lists' α R u.answer u.among u.answers_is in
        record {
          result = c.result;
          transition = c.transition;
          all = λ y h.
              subst L (rewritten α y R c.result)
              (m.all (led true make F D s (step α c.result) y)
              (subst (λ l. led true make F D s (step α c.result) y ∈ l) (sym (u.is ∙ ap (λ v. map (led true make F D s v) ys) c.is))
              (∈-map (led true make F D s (step α c.result)) y ys h)));
        }

  binds_input : (a : ℕ) → BindsNew (input a x)
  binds_input a y (inr x'') = elim x'' [ ]
  binds_input a y (inl e) = e

  -- Clause (i)
  pub found-input : (k : Kind) (L : Situation → Type 0) → AllMet k L → (a : ℕ) (P' : Term) → Concrete Δ P (input a x) P'
      → Found Δ k (λ A B. L (make (S.form A) (S.form B) [])) a x P P' Q
  unfolding lots object_of
  found-input late L met a P' t =
      let r = demand_met late L met (input a x) P' t (binds_input a) (received true S.names F (step (input a x) P')) (inl refl) in
      record { result = r.result; transition = r.transition; related = λ y o. r.all y (offers a (S.form P') (listed (input a x) P' t (binds_input a)) y o) }
  found-input early L met a P' t =
      λ y o.
      let r = demand_met early L met (input a x) P' t (binds_input a) (y ∷ [])
      (∈-map (λ y. y ∷ []) y (received true S.names F (step (input a x) P')) (offers a (S.form P') (listed (input a x) P' t (binds_input a)) y o)) in
      record { result = r.result; transition = r.transition; related = r.all y (inl refl) }

  -- Clause (ii)
  one_lot : (k : Kind) (y : ℕ) → (y ∷ []) ∈ lots k (y ∷ [])
  unfolding lots
  one_lot late y = inl refl
  one_lot early y = inl refl

  found-other : (k : Kind) (L : Situation → Type 0) → AllMet k L → (α : Action) (P' : Term) → Concrete Δ P α P' → BindsNew α
      → (object_of α ∷ []) ∈ lots k (received true S.names F (step α P')) → AnsweredAs Δ (λ A B. L (make (S.form A) (S.form B) [])) α P' Q
  found-other k L met α P' t b i =
      let r = demand_met k L met α P' t b (object_of α ∷ []) i in
      record {
        result = r.result;
        transition = r.transition;
        related = subst₂ (λ A B. L (make (S.form A) (S.form B) [])) (put_same (object_of α) P') (put_same (object_of α) r.result) (r.all (object_of α) (inl refl));
      }

  pub found-answer : (k : Kind) (L : Situation → Type 0) → AllMet k L → (α : Act) → ((a : ℕ) → α ≢ inp_a a) → (P' : Term) → Concrete Δ P (named x α) P'
      → AnsweredAs Δ (λ A B. L (make (S.form A) (S.form B) [])) (named x α) P' Q
  unfolding received listed_as kind_of object_of
  found-answer k L met tau_a h P' t = found-other k L met silent P' t (λ y i. absurd i) (one_lot k 0)
  found-answer k L met (inp_a a) h P' t = absurd (h a refl)
  found-answer k L met (out_a a b) h P' t = found-other k L met (output a b) P' t (λ y i. absurd i) (one_lot k b)
  found-answer k L met (bout_a a) h P' t = found-other k L met (new_output a x) P' t (binds_new_lem a) (one_lot k x)
    where
      binds_new_lem : (a y : ℕ) → In y (x ∷ []) → y ≡ x
      binds_new_lem a y (inr x4) = elim x4 [ ]
      binds_new_lem a y (inl e) = e

  -- Bisimilar parts meet each demand.
  module _ (k : Kind) (L : Situation → Type 1) (intro : (A B : Term) → Bisimilar Δ k A B → L (make (S.form A) (S.form B) [])) where
    meets_by : (α : Action) (R T : Term) → Concrete Δ Q α T → BindsNew α → (ys : List ℕ)
        → ((y : ℕ) → y ∈ ys → Bisimilar Δ k (ren (put (object_of α) y) R) (ren (put (object_of α) y) T)) → Met L (demand_of S.names make F D qs (step α R) ys)
    unfolding led listed_as
    meets_by α R T t b ys h = record {
      answer = map (led true make F D (step α R) (step α T)) ys;
      member = in_demand S.names make F D k ps qs (step α R) ys (step α T)
          (answer-listed Δ S arities x P Q scope scope' new new' ps qs lists lists' α T t b)
          (answers-own Δ S arities x P Q scope scope' new new' ps qs lists lists' α R T);
      all = λ u i. let (y, j, e) = map-∈ (led true make F D (step α R) (step α T)) u ys i in
          subst L (sym (e ∙ rewritten α y R T)) (intro (ren (put (object_of α) y) R) (ren (put (object_of α) y) T) (h y j));
    }

    meets_other : Bisimilar Δ k P Q → (α : Action) (R : Term) → Concrete Δ P α R → BindsNew α → ((a y : ℕ) → α ≢ input a y) → (ys : List ℕ) → ys ≡ object_of α ∷ []
        → Met L (demand_of S.names make F D qs (step α R) ys)
    meets_other b α R t n o ys e =
        let r = b.bisimulation.answered b.relates t
        (avoids Δ S arities x P Q scope scope' new new' ps qs lists lists' α P n new) (avoids Δ S arities x P Q scope scope' new new' ps qs lists lists' α Q n new') o in
        meets_by α R r.result r.transition n ys
        (λ y i.
        let q : y ≡ object_of α = only y (object_of α) (subst (λ zs. y ∈ zs) e i) in
        record {
          by = b.by;
          bisimulation = b.bisimulation;
          relates = subst (λ z. b.by (ren (put (object_of α) z) R) (ren (put (object_of α) z) r.result)) (sym q)
              (subst₂ b.by (sym (put_same (object_of α) R)) (sym (put_same (object_of α) r.result)) r.related);
        })
      where
        only : (y z : ℕ) → y ∈ (z ∷ []) → y ≡ z
        only y z (inr x'') = elim x'' [ ]
        only y z (inl e) = e

  only_lot : (k : Kind) (z : ℕ) (ys : List ℕ) → ys ∈ lots k (z ∷ []) → ys ≡ z ∷ []
  unfolding lots
  only_lot late z ys (inr x3) = elim x3 [ ]
  only_lot early z ys (inr x4) = elim x4 [ ]
  only_lot late z ys (inl e) = e
  only_lot early z ys (inl e) = e

  meets_input : (k : Kind) (L : Situation → Type 1) → ((A B : Term) → Bisimilar Δ k A B → L (make (S.form A) (S.form B) [])) → Bisimilar Δ k P Q
      → (a : ℕ) (R : Term) → Concrete Δ P (input a x) R → (ys : List ℕ) → ys ∈ lots k (received true S.names F (step (input a x) R))
      → Met L (demand_of S.names make F D qs (step (input a x) R) ys)
  unfolding lots object_of
  meets_input late L intro b a R t ys (inr x6) = elim x6 [ ]
  meets_input late L intro b a R t ys (inl e) =
      let r = b.bisimulation.received b.relates t
      (avoids Δ S arities x P Q scope scope' new new' ps qs lists lists' (input a x) P (binds_input a) new)
      (avoids Δ S arities x P Q scope scope' new new' ps qs lists lists' (input a x) Q (binds_input a) new') in
      meets_by late L intro (input a x) R r.result r.transition (binds_input a) ys
      (λ y i. record { by = b.by; bisimulation = b.bisimulation; relates = r.related y })
  meets_input early L intro b a R t ys i =
      let (y, j, e) = map-∈ (λ y. y ∷ []) ys (received true S.names F (step (input a x) R)) i in
      let r = b.bisimulation.received b.relates t
      (avoids Δ S arities x P Q scope scope' new new' ps qs lists lists' (input a x) P (binds_input a) new)
      (avoids Δ S arities x P Q scope scope' new new' ps qs lists lists' (input a x) Q (binds_input a) new') y in
      subst (λ zs. Met L (demand_of S.names make F D qs (step (input a x) R) zs)) (sym e)
      (meets_by early L intro (input a x) R r.result r.transition (binds_input a) (y ∷ []) (one y r))
    where
      one : (y : ℕ) (r : ReceivedAs Δ b.by a x y R Q) → (z : ℕ) → z ∈ (y ∷ []) → Bisimilar Δ early (ren (put x z) R) (ren (put x z) r.result)
      one y r z (inr x6) = elim x6 [ ]
      one y r z (inl q) = record { by = b.by; bisimulation = b.bisimulation; relates = subst (λ z. b.by (ren (put x z) R) (ren (put x z) r.result)) (sym q) r.related }

  meets_at : (k : Kind) (L : Situation → Type 1) → ((A B : Term) → Bisimilar Δ k A B → L (make (S.form A) (S.form B) [])) → Bisimilar Δ k P Q
      → (α : Action) (R : Term) → Concrete Δ P α R → BindsNew α → (ys : List ℕ) → ys ∈ lots k (received true S.names F (step α R))
      → Met L (demand_of S.names make F D qs (step α R) ys)
  unfolding received listed_as kind_of object_of
  meets_at k L intro b silent R t n ys i = meets_other k L intro b silent R t n (λ a y e. let z : ◌≡◌ {A = ℕ} 0 1 = cc in omega arith) ys (only_lot k 0 ys i)
  meets_at k L intro b (input a y) R t n ys i =
      let e : y ≡ x = n y (inl refl) in
      subst (λ z. Met L (demand_of S.names make F D qs (step (input a z) R) ys)) (sym e)
      (meets_input k L intro b a R (subst (λ z. Concrete Δ P (input a z) R) e t) ys (subst (λ z. ys ∈ lots k (received true S.names F (step (input a z) R))) e i))
  meets_at k L intro b (output a c) R t n ys i =
      meets_other k L intro b (output a c) R t n (λ a y e. let z : ◌≡◌ {A = ℕ} 0 1 = cc in omega arith) ys (only_lot k c ys i)
  meets_at k L intro b (new_output a y) R t n ys i =
      meets_other k L intro b (new_output a y) R t n (λ a y e. let z : ◌≡◌ {A = ℕ} 0 1 = cc in omega arith) ys (only_lot k y ys i)

  pub bisimilar_meets : (k : Kind) (L : Situation → Type 1) → ((A B : Term) → Bisimilar Δ k A B → L (make (S.form A) (S.form B) [])) → Bisimilar Δ k P Q → AllMet k L
  unfolding allowed
  bisimilar_meets k L intro b w i =
      let d = of_demands S.names make F D k ps qs w i in
      let m = listed_performs Δ S arities x P Q scope scope' new new' ps qs lists lists' d.step d.among d.allowed_is in
      subst (Met L) (sym (d.is ∙ ap (λ r. demand_of S.names make F D qs r d.lot) m.is))
      (meets_at k L intro b m.action m.result m.does m.binds d.lot (subst (λ r. d.lot ∈ lots k (received true S.names F r)) m.is d.offered))
