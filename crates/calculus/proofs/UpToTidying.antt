-- A search may tidy what it finds: if each situation of R answers with results that are situations of R up to renaming and tidying, its
-- parts are related. Assumes nothing.
use Prim.Native.Nat.{ℕ}
use mathlib.Core.List.{◌++◌}
use mathlib.Core.Logic.{inl, inr}
use mathlib.Core.Path.{◌≡◌, sym, ◌∙◌, ap, subst, subst₂}
use Rattle.calculus.specs.Abstraction.{Act}
use Rattle.calculus.specs.Cond.{Cond, Pairs, cls}
use Rattle.calculus.specs.Definitions.{Defs}
use Rattle.calculus.specs.Distinction.{Resp}
use Rattle.calculus.specs.Free.{fn}
use Rattle.calculus.specs.OpenBisimulation.{Rel, flip}
use Rattle.calculus.specs.Term.{Term, ren}
use Rattle.calculus.specs.Tidy.{tidy}
use Rattle.calculus.proofs.Conditions.{cls-~, ▷_trans}
use Rattle.calculus.proofs.Distinctions.{after}
use Rattle.calculus.proofs.Parallel.{closed_at, after_mono, resp_▷, cl_closed}
use Rattle.calculus.proofs.PublishedBisimulation.{SearchAnswers, from_search}
use Rattle.calculus.proofs.Tidying.{tidy-ren}
use Rattle.calculus.proofs.TidySteps.{alike-steps}
use Rattle.calculus.proofs.TidyTransitions.{alike_free}
use Rattle.calculus.proofs.UpToRenaming.{Either, Renames, Cl, cl_flip, closure_sim, either→fn, fn→either}
use Rattle.calculus.proofs.Working.{ren_a, under, Trans}
use Rattle.calculus.proofs.WorkingBisimulation.{Answer, Sim, Bisim, sim_map}

-- S relates terms that have the tidied forms of P and Q
pub record Tidied (S : Rel) (D : Pairs) (P Q : Term) : Type 0 where
  pub left : Term
  pub right : Term
  pub rel : S D left right
  pub lefts : tidy left ≡ tidy P
  pub rights : tidy right ≡ tidy Q

pub tidied-flip : {S : Rel} {D : Pairs} {P Q : Term} → Tidied S D P Q → Tidied (flip S) D Q P
tidied-flip r = record { left = r.right; right = r.left; rel = r.rel; lefts = r.rights; rights = r.lefts }

pub tidied-map : {S T : Rel} → ((D : Pairs) (P Q : Term) → S D P Q → T D P Q) → {D : Pairs} {P Q : Term} → Tidied S D P Q → Tidied T D P Q
tidied-map f {D} r = record { left = r.left; right = r.right; rel = f D r.left r.right r.rel; lefts = r.lefts; rights = r.rights }

alike_either : (P Q X Y : Term) → tidy P ≡ tidy X → tidy Q ≡ tidy Y → (n : ℕ) → Either n P Q → Either n X Y
alike_either P Q X Y e f n (inl h) = inl (alike_free P X e n h)
alike_either P Q X Y e f n (inr h) = inr (alike_free Q Y f n h)

alike-ren : (θ : ℕ → ℕ) (P Q : Term) → tidy P ≡ tidy Q → tidy (ren θ P) ≡ tidy (ren θ Q)
alike-ren θ P Q e = tidy-ren θ P ∙ ap (ren θ) e ∙ sym (tidy-ren θ Q)

pub tidied_closed : {S : Rel} → Renames S → Renames (Tidied S)
tidied_closed k D P Q r θ E cov = record {
  left = ren θ r.left;
  right = ren θ r.right;
  rel = k D r.left r.right r.rel θ E
      (λ a b d i j. cov a b d (alike_either r.left r.right P Q r.lefts r.rights a i) (alike_either r.left r.right P Q r.lefts r.rights b j));
  lefts = alike-ren θ r.left P r.lefts;
  rights = alike-ren θ r.right Q r.rights;
}

module _ (Δ : Defs) where
  -- the closure of S under tidying progresses where S does
  module _ (S : Rel) (closed : Renames S) (sim : Sim Δ S (Tidied S)) where
    tidied-answer : {D : Pairs} {P Q : Term} → Tidied S D P Q → {M : Cond} {α : Act} {P' : Term} → Trans Δ P M α P' → Resp M D
        → Answer Δ (Tidied S) D P M α P' Q
    tidied-answer {D} {P} {Q} r {M} {α} {P'} t resp =
        let k = alike-steps Δ P r.left (sym r.lefts) t in
        let ans = sim.answer r.rel k.step (resp_▷ M k.cond D k.conds.1 resp) in
        let l = alike-steps Δ r.right Q r.rights ans.step in
        let c : cls k.cond ≡ cls M = cls-~ k.cond M k.conds in
        let s : Tidied S (after α (cls M) (fn r.left ++ fn r.right) D) (ren (under α (cls M)) k.resid) (ren (under α (cls M)) ans.resid) =
        subst (λ f. Tidied S (after α f (fn r.left ++ fn r.right) D) (ren (under α f) k.resid) (ren (under α f) ans.resid)) c ans.rel in
        record {
          cond = l.cond;
          act = ans.act;
          resid = l.resid;
          step = l.step;
          implied = ▷_trans M k.cond l.cond k.conds.1 (▷_trans k.cond ans.cond l.cond ans.implied l.conds.1);
          acts = subst (λ f. ren_a f α ≡ ren_a f ans.act) c ans.acts;
          rel = closed_at (tidied_closed closed)
              (record {
                left = s.left;
                right = s.right;
                rel = s.rel;
                lefts = s.lefts ∙ alike-ren (under α (cls M)) k.resid P' k.resids;
                rights = s.rights ∙ alike-ren (under α (cls M)) ans.resid l.resid (sym l.resids);
              })
              (after α (cls M) (fn P ++ fn Q) D)
              (λ x y d i j. after_mono α (cls M) (fn r.left ++ fn r.right) (fn P ++ fn Q) D
              (λ n m. either→fn n P Q (alike_either r.left r.right P Q r.lefts r.rights n (fn→either n r.left r.right m))) x y d);
        }

    tidied_sim : Sim Δ (Tidied S) (Tidied S)
    tidied_sim = record { answer = tidied-answer }

  -- of a closure of what is closed under substitution nothing new comes
  un_cl : {S : Rel} → Renames S → {D : Pairs} {P Q : Term} → Cl S D P Q → S D P Q
  un_cl {S} k {D} c = subst₂ (S D) (sym c.lefts) (sym c.rights) (k _ _ _ c.rel c.sub D c.covers)

  -- What a search answers, its results tidied
  pub record TidySearch (R : Rel) : Type 0 where
    pub forth : SearchAnswers Δ R (Tidied (Cl R))
    pub back : SearchAnswers Δ (flip R) (Tidied (flip (Cl R)))

  one_side : (R : Rel) → SearchAnswers Δ R (Tidied (Cl R)) → Sim Δ (Tidied (Cl R)) (Tidied (Cl R))
  one_side R s =
      let k : Renames (Tidied (Cl R)) = tidied_closed cl_closed in
      tidied_sim (Cl R) cl_closed
      (closure_sim Δ R (Tidied (Cl R)) k (sim_map Δ (λ D P Q r. r) (λ D P Q. un_cl k) (from_search Δ R (Tidied (Cl R)) s)))

  pub tidy_search_working : {R : Rel} → TidySearch R → Bisim Δ (Tidied (Cl R))
  tidy_search_working {R} s = record {
    forth = one_side R s.forth;
    back = sim_map Δ (λ D P Q c. tidied-map (λ D P Q. cl_flip) (tidied-flip c)) (λ D P Q c. tidied-flip (tidied-map (λ D P Q. cl_flip) c))
        (one_side (flip R) (search_flip s.back));
  }
    where
      search_flip : SearchAnswers Δ (flip R) (Tidied (flip (Cl R))) → SearchAnswers Δ (flip R) (Tidied (Cl (flip R)))
      search_flip b = record {
        name = b.name;
        away = b.away;
        answer = λ {D} {P} {Q} r t n h.
            let a = b.answer r t n h in
            record {
              condition = a.condition;
              action = a.action;
              result = a.result;
              transition = a.transition;
              implied = a.implied;
              equal = a.equal;
              related = tidied-map (λ D P Q. cl_flip) a.related;
            };
      }
