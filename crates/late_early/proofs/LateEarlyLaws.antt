-- Late and early bisimilarity (Definitions 7 to 10): open related parts are late bisimilar, and late bisimilar ones early bisimilar.
-- Assumes nothing.
use mathlib.Core.Path.{◌≡◌, refl, sym, ◌∙◌, ap, subst}
use mathlib.Core.Logic.{◌⊎◌, inl, inr, ⊎_elim}
use mathlib.Core.List.{List, [], ◌++◌}
use Prim.Native.Nat.{ℕ}
use Rattle.calculus.specs.Term.{Term, ren, put}
use Rattle.calculus.specs.Free.{fn}
use Rattle.calculus.specs.Cond.{Pairs, map_p, cls}
use Rattle.calculus.specs.Distinction.{Apart, Irr, Resp, cut}
use Rattle.calculus.specs.Definitions.{Defs}
use Rattle.calculus.specs.Published.{Action, input, ren_action, Avoids}
use Rattle.calculus.specs.OpenBisimulation.{Rel, flip, update, AvoidsPairs, Answers, Related}
use Rattle.late_early.specs.Concrete.{Concrete}
use Rattle.late_early.specs.LateEarly.{late, early, Binary, ReceivedAny, AnsweredAs, Bisimulation, Bisimilar}
use Rattle.calculus.proofs.Renaming.{ren_id}
use Rattle.calculus.proofs.Binding.{put_other}
use Rattle.calculus.proofs.Distinctions.{apart_at, apart_sym, of_apart_map}
use Rattle.calculus.proofs.Selection.{apart_cut, of_apart_cut}
use Rattle.calculus.proofs.UpToRenaming.{Cl, cl_of, bisim_cl, either→fn, fn→either}
use Rattle.calculus.proofs.Parallel.{Closed, closed_at, closed_flip, cl_closed}
use Rattle.calculus.proofs.PublishedBisimulation.{to_working, to_answers, update_irr}
use Rattle.late_early.proofs.ConcreteSteps.{nil_trivial, action_id, concrete_transition, transition_concrete}

cls-nil : cls [] ≡ (λ n. n)
unfolding cls
cls-nil = refl

module _ (Δ : Defs) where
  -- One answer for all names is one for each.
  pub late_is_early : {R : Binary} → Bisimulation Δ late R → Bisimulation Δ early R
  late_is_early b = record {
    symmetric = b.symmetric;
    received = λ r t h k y. let a = b.received r t h k in record { result = a.result; transition = a.transition; related = a.related y };
    answered = b.answered;
  }

  pub late_early : {P Q : Term} → Bisimilar Δ late P Q → Bisimilar Δ early P Q
  late_early b = record { by = b.by; bisimulation = late_is_early b.bisimulation; relates = b.relates }

  -- The relations of an open bisimulation, under any distinction.
  pub record Under (B : Rel) (P Q : Term) : Type 0 where
    pub dist : Pairs
    pub irr : Irr dist
    pub rel : B dist P Q

  module _ (B : Rel) (k : Closed B) (sim : Answers Δ B) where
    -- a concrete transition answered; the distinction has names of both sides only
    record Matched (E : Pairs) (P : Term) (α : Action) (P' Q : Term) : Type 0 where
      result : Term
      transition : Concrete Δ Q α result
      related : B (update E P Q α []) P' result
      irr : Irr (update E P Q α [])

    module _ (P Q : Term) (u : Under B P Q) where
      F : List ℕ
      F = fn P ++ fn Q

      E : Pairs
      E = cut u.dist F

      E_irr : Irr E
      unfolding E
      E_irr a b d = u.irr a b (of_apart_cut u.dist F a b d).0

      E_rel : B E P Q
      unfolding E F
      E_rel = closed_at k u.rel E (λ a b d i j. apart_cut u.dist F a b d (either→fn a P Q i) (either→fn b P Q j))

      E_avoids : (α : Action) → Avoids α P → Avoids α Q → AvoidsPairs α E
      unfolding E F
      E_avoids α hP hQ x b i d = ⊎_elim (hP x i) (hQ x i) (fn→either x P Q (of_apart_cut u.dist F x b d).1)

      E_resp : Resp [] E
      unfolding cls
      E_resp = E_irr

      matched : {α : Action} {P' : Term} → Concrete Δ P α P' → Avoids α P → Avoids α Q → Matched E P α P' Q
      matched {α} {P'} t hP hQ =
          let ans = sim.answer E_rel (concrete_transition Δ t hP) hQ (E_avoids α hP hQ) E_resp in
          let e : ans.action ≡ α = sym (ans.equal ∙ ap (λ f. ren_action f ans.action) cls-nil ∙ action_id ans.action) in
          let q : ren (cls []) ans.result ≡ ans.result = ap (λ f. ren f ans.result) cls-nil ∙ ren_id ans.result in
          record {
            result = ans.result;
            transition = subst (λ β. Concrete Δ Q β ans.result) e (transition_concrete Δ ans.transition (nil_trivial ans.condition ans.implied)).0;
            related = subst (B (update E P Q α []) P') q ans.related;
            irr = update_irr Δ E P Q (concrete_transition Δ t hP) hQ (E_avoids α hP hQ) E_resp;
          }

      under-received : {a x : ℕ} {P' : Term} → Concrete Δ P (input a x) P' → Avoids (input a x) P → Avoids (input a x) Q
          → ReceivedAny Δ (Under B) a x P' Q
      unfolding update
      under-received {a} {x} {P'} t hP hQ =
          let m = matched t hP hQ in
          record {
            result = m.result;
            transition = m.transition;
            related = λ y. record { dist = E; irr = E_irr; rel = k _ _ _ m.related (put x y) E (λ v w d i j. covers y v w d) };
          }
        where
          stays : (y c d : ℕ) → Apart E c d → put x y (cls [] c) ≡ c
          stays y c d h = ap (λ f. put x y (f c)) cls-nil ∙ put_other x y c (λ e. E_avoids (input a x) hP hQ x d (inl refl) (apart_at E (sym e) refl h))

          covers : (y v w : ℕ) → Apart (map_p (cls []) ([] ++ E)) v w → Apart E (put x y v) (put x y w)
          covers y v w d =
              let (c, e, h, ev, ew) = of_apart_map (cls []) E v w d in
              apart_at E (ap (put x y) ev ∙ stays y c e h) (ap (put x y) ew ∙ stays y e c (apart_sym E c e h)) h

      under-answered : {α : Action} {P' : Term} → Concrete Δ P α P' → Avoids α P → Avoids α Q → AnsweredAs Δ (Under B) α P' Q
      under-answered {α} t hP hQ =
          let m = matched t hP hQ in
          record { result = m.result; transition = m.transition; related = record { dist = update E P Q α []; irr = m.irr; rel = m.related } }

  abbrev Both : Rel → Binary
  Both B P Q = Under B P Q ⊎ Under (flip B) P Q

  module _ (B : Rel) (k : Closed B) (forth : Answers Δ B) (back : Answers Δ (flip B)) where
    both-received : {P Q : Term} → Both B P Q → {a x : ℕ} {P' : Term} → Concrete Δ P (input a x) P' → Avoids (input a x) P → Avoids (input a x) Q
        → ReceivedAny Δ (Both B) a x P' Q
    both-received {P} {Q} (inl u) t h g =
        let r = under-received B k forth P Q u t h g in record { result = r.result; transition = r.transition; related = λ y. inl (r.related y) }
    both-received {P} {Q} (inr u) t h g =
        let r = under-received (flip B) (closed_flip k) back P Q u t h g in record { result = r.result; transition = r.transition; related = λ y. inr (r.related y) }

    both-answered : {P Q : Term} → Both B P Q → {α : Action} {P' : Term} → Concrete Δ P α P' → Avoids α P → Avoids α Q → AnsweredAs Δ (Both B) α P' Q
    both-answered {P} {Q} (inl u) t h g =
        let r = under-answered B k forth P Q u t h g in record { result = r.result; transition = r.transition; related = inl r.related }
    both-answered {P} {Q} (inr u) t h g =
        let r = under-answered (flip B) (closed_flip k) back P Q u t h g in record { result = r.result; transition = r.transition; related = inr r.related }

    swapped : {P Q : Term} → Both B P Q → Both B Q P
    swapped (inl u) = inr (record { dist = u.dist; irr = u.irr; rel = u.rel })
    swapped (inr u) = inl (record { dist = u.dist; irr = u.irr; rel = u.rel })

    both_late : Bisimulation Δ late (Both B)
    both_late = record { symmetric = swapped; received = both-received; answered = λ r t h g n. both-answered r t h g }

  pub open_late : {D : Pairs} {P Q : Term} → Related Δ D P Q → Bisimilar Δ late P Q
  open_late {D} r =
      let w = to_working Δ r in
      let B : Rel = Cl w.by in
      let c = bisim_cl Δ w.bisim in
      let forth = to_answers Δ B cl_closed c.forth in
      let back = to_answers Δ (flip B) (closed_flip cl_closed) c.back in
      record {
        by = Both B;
        bisimulation = both_late B cl_closed forth back;
        relates = inl (record { dist = D; irr = r.distinction; rel = cl_of Δ r.distinction w.related });
      }
