-- The transitions of Table 3.1 are those of Table 4.1, with rule Canon, whose condition is trivial. Assumes nothing.
use mathlib.Core.Path.{◌≡◌, refl, sym, ◌∙◌, ap, fun_ext, subst}
use mathlib.Core.Logic.{◌↔◌}
use mathlib.Core.List.{[], ◌∷◌, ◌++◌}
use Prim.Native.Nat.{ℕ}
use Rattle.calculus.specs.Term.{Term, mat, ren}
use Rattle.calculus.specs.Cond.{Cond, Unif, cls, ◌▷◌, Name, nontrivial, above, matches_to, matches_below, canonical}
use Rattle.calculus.specs.Definitions.{Defs}
use Rattle.calculus.specs.Published.{Action, silent, input, output, new_output, ren_action, Avoids, Step, Pre, Con, Sum, SumR, Par, ParR, Com, ComR, Close, CloseR, Match, Res, Open, Transition, Canon}
use Rattle.late_early.specs.Concrete.{Concrete, Pre3, Con3, Sum3, Sum3R, Par3, Par3R, Com3, Com3R, Close3, Close3R, Match3, Res3, Open3}
use Rattle.calculus.proofs.Renaming.{ren_id}
use Rattle.calculus.proofs.Conditions.{E3, ▷-all, Unif-++, Unif-left, Unif_right}
use Rattle.calculus.proofs.Canonical.{merges_iff_named, canonical-~, canonical-same}

-- every match is trivial
abbrev pub Trivial : Cond → Type 0
Trivial M = Unif (λ n. n) M

pub trivial_cls : (M : Cond) → Trivial M → (n : ℕ) → cls M n ≡ n
trivial_cls M u n = E3 (λ n. n) M u n

pub trivial_▷ : (M N : Cond) → Trivial M → M ▷ N → Trivial N
trivial_▷ M N u i = ▷-all (λ n. n) M N i u

pub nil_trivial : (M : Cond) → [] ▷ M → Trivial M
nil_trivial M i = trivial_▷ [] M tt i

pub trivial_nil : (M : Cond) → Trivial M → [] ▷ M
unfolding cls
trivial_nil M u = u

-- a trivial condition merges no names
trivial_quiet : (M : Cond) → Trivial M → (b : ℕ) → ¬ Name b (nontrivial M)
trivial_quiet M u b n =
    let m = (merges_iff_named M b).1 n in m.differs (sym (trivial_cls M u m.other) ∙ m.merged ∙ trivial_cls M u b)

pub action_id : (α : Action) → ren_action (λ n. n) α ≡ α
action_id silent = refl
action_id (input a x) = refl
action_id (output a b) = refl
action_id (new_output a x) = refl

canonical_trivial : (M : Cond) → Trivial M → canonical M ≡ []
unfolding cls above matches_to matches_below canonical
canonical_trivial M u = canonical-same M [] (tt, u)

module _ (Δ : Defs) where
  -- a step of Table 4.1 under a trivial condition
  pub record TrivialStep (P : Term) (α : Action) (P' : Term) : Type 0 where
    pub condition : Cond
    pub trivial : Trivial condition
    pub step : Step Δ P condition α P'

  pub concrete_step : {P : Term} {α : Action} {P' : Term} → Concrete Δ P α P' → TrivialStep P α P'
  concrete_step (Pre3 α P) = record { condition = []; trivial = tt; step = Pre α P }
  concrete_step (Con3 e t) = let s = concrete_step t in record { condition = s.condition; trivial = s.trivial; step = Con e s.step }
  concrete_step (Sum3 t) = let s = concrete_step t in record { condition = s.condition; trivial = s.trivial; step = Sum s.step }
  concrete_step (Sum3R t) = let s = concrete_step t in record { condition = s.condition; trivial = s.trivial; step = SumR s.step }
  concrete_step (Par3 t h) = let s = concrete_step t in record { condition = s.condition; trivial = s.trivial; step = Par s.step h }
  concrete_step (Par3R t h) = let s = concrete_step t in record { condition = s.condition; trivial = s.trivial; step = ParR s.step h }
  concrete_step (Com3 {a = a} t u) =
      let s = concrete_step t in
      let r = concrete_step u in
      record {
        condition = (a, a) ∷ (s.condition ++ r.condition);
        trivial = (refl, Unif-++ (λ n. n) s.condition r.condition s.trivial r.trivial);
        step = Com s.step r.step;
      }
  concrete_step (Com3R {a = a} t u) =
      let s = concrete_step t in
      let r = concrete_step u in
      record {
        condition = (a, a) ∷ (s.condition ++ r.condition);
        trivial = (refl, Unif-++ (λ n. n) s.condition r.condition s.trivial r.trivial);
        step = ComR s.step r.step;
      }
  concrete_step (Close3 {a = a} t u) =
      let s = concrete_step t in
      let r = concrete_step u in
      record {
        condition = (a, a) ∷ (s.condition ++ r.condition);
        trivial = (refl, Unif-++ (λ n. n) s.condition r.condition s.trivial r.trivial);
        step = Close s.step r.step;
      }
  concrete_step (Close3R {a = a} t u) =
      let s = concrete_step t in
      let r = concrete_step u in
      record {
        condition = (a, a) ∷ (s.condition ++ r.condition);
        trivial = (refl, Unif-++ (λ n. n) s.condition r.condition s.trivial r.trivial);
        step = CloseR s.step r.step;
      }
  concrete_step (Match3 {a = a} t) =
      let s = concrete_step t in record { condition = (a, a) ∷ s.condition; trivial = (refl, s.trivial); step = Match s.step }
  concrete_step (Res3 b t h) =
      let s = concrete_step t in
      record { condition = s.condition; trivial = s.trivial; step = Res b s.step (trivial_quiet s.condition s.trivial b) h }
  concrete_step (Open3 b t h) =
      let s = concrete_step t in
      record { condition = s.condition; trivial = s.trivial; step = Open b s.step (trivial_quiet s.condition s.trivial b) h }

  pub step_concrete : {P : Term} {M : Cond} {α : Action} {P' : Term} → Step Δ P M α P' → Trivial M → Concrete Δ P α P'
  step_concrete (Pre α P) u = Pre3 α P
  step_concrete (Con e t) u = Con3 e (step_concrete t u)
  step_concrete (Sum t) u = Sum3 (step_concrete t u)
  step_concrete (SumR t) u = Sum3R (step_concrete t u)
  step_concrete (Par t h) u = Par3 (step_concrete t u) h
  step_concrete (ParR t h) u = Par3R (step_concrete t u) h
  step_concrete (Com {Q = Q} {M = M} {N = N} {x = x} {Q' = Q'} t r) u =
      Com3 (step_concrete t (Unif-left (λ n. n) M N u.1))
      (subst (λ c. Concrete Δ Q (input c x) Q') (sym u.0) (step_concrete r (Unif_right (λ n. n) M N u.1)))
  step_concrete (ComR {Q = Q} {M = M} {N = N} {y = y} {Q' = Q'} t r) u =
      Com3R (step_concrete t (Unif-left (λ n. n) M N u.1))
      (subst (λ c. Concrete Δ Q (output c y) Q') (sym u.0) (step_concrete r (Unif_right (λ n. n) M N u.1)))
  step_concrete (Close {Q = Q} {M = M} {N = N} {x = x} {Q' = Q'} t r) u =
      Close3 (step_concrete t (Unif-left (λ n. n) M N u.1))
      (subst (λ c. Concrete Δ Q (input c x) Q') (sym u.0) (step_concrete r (Unif_right (λ n. n) M N u.1)))
  step_concrete (CloseR {Q = Q} {M = M} {N = N} {x = x} {Q' = Q'} t r) u =
      Close3R (step_concrete t (Unif-left (λ n. n) M N u.1))
      (subst (λ c. Concrete Δ Q (new_output c x) Q') (sym u.0) (step_concrete r (Unif_right (λ n. n) M N u.1)))
  step_concrete (Match {P = P} {α = α} {P' = P'} {a = a} t) u =
      subst (λ c. Concrete Δ (mat a c P) α P') u.0 (Match3 (step_concrete t u.1))
  step_concrete (Res b t m h) u = Res3 b (step_concrete t u) h
  step_concrete (Open b t m h) u = Open3 b (step_concrete t u) h

  -- "Steps whose conditions are trivial" (document 02, request 2026-02), with rule Canon, are the transitions of Table 3.1 that bind no free name.
  pub concrete_transition : {P : Term} {α : Action} {P' : Term} → Concrete Δ P α P' → Avoids α P → Transition Δ P [] α P'
  concrete_transition {P} {α} {P'} t h =
      let s = concrete_step t in
      let M = s.condition in
      let e : canonical M ≡ [] = canonical_trivial M s.trivial in
      let f : cls (canonical M) ≡ (λ n. n) = fun_ext (trivial_cls (canonical M) (trivial_▷ M (canonical M) s.trivial (canonical-~ M).1)) in
      coe 0 1 (i. Transition Δ P (e i) ((ap (λ g. ren_action g α) f ∙ action_id α) i) ((ap (λ g. ren g P') f ∙ ren_id P') i))
      (Canon s.step h)

  pub transition_concrete : {P : Term} {M : Cond} {α : Action} {P' : Term} → Transition Δ P M α P' → Trivial M → Concrete Δ P α P' × Avoids α P
  transition_concrete {P} (Canon {N = N} {α = α} {P' = P'} t h) u =
      let v : Trivial N = trivial_▷ (canonical N) N u (canonical-~ N).0 in
      let f : (λ n. n) ≡ cls (canonical N) = sym (fun_ext (trivial_cls (canonical N) u)) in
      let e : α ≡ ren_action (cls (canonical N)) α = sym (action_id α) ∙ ap (λ g. ren_action g α) f in (
        coe 0 1 (i. Concrete Δ P (e i) ((sym (ren_id P') ∙ ap (λ g. ren g P') f) i)) (step_concrete t v),
        subst (λ β. Avoids β P) e h,
      )

  -- the condition of such a transition is the empty one
  pub transition_nil : {P : Term} {M : Cond} {α : Action} {P' : Term} → Transition Δ P M α P' → Trivial M → M ≡ []
  transition_nil (Canon {N = N} t h) u = canonical_trivial N (trivial_▷ (canonical N) N u (canonical-~ N).0)

  -- Table 3.1 against Table 4.1: for bound names that are not free in the part, the transitions are those under the empty condition.
  pub concrete_iff_unconditional : (P : Term) (α : Action) (P' : Term) → (Concrete Δ P α P' × Avoids α P) ↔ Transition Δ P [] α P'
  concrete_iff_unconditional P α P' = (λ t. concrete_transition t.0 t.1, λ t. transition_concrete t tt)
