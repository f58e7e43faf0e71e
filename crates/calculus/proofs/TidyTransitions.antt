-- The published transitions of a term and of its tidied form: the same conditions and actions, and results with one tidied form.
-- Assumes nothing.
use Prim.Native.Nat.{ℕ}
use mathlib.Core.Logic.{inl}
use mathlib.Core.Path.{◌≡◌, refl, sym, ◌∙◌, ap, subst, subst₂}
use Rattle.calculus.specs.Cond.{Cond, cls, canonical}
use Rattle.calculus.specs.Definitions.{Defs}
use Rattle.calculus.specs.Free.{Free, fn}
use Rattle.calculus.specs.Published.{Action, silent, input, output, new_output, ren_action, Avoids, Transition, Canon}
use Rattle.calculus.specs.Term.{Term, ren, inst}
use Rattle.calculus.specs.Tidy.{tidy}
use Rattle.calculus.proofs.Binding.{fresh-name}
use Rattle.calculus.proofs.Canonical.{canonical-same}
use Rattle.calculus.proofs.Conditions.{~_trans}
use Rattle.calculus.proofs.FreeNames.{free→fn}
use Rattle.calculus.proofs.PublishedSteps.{act, fill, unname, named, avoids_named, name_it}
use Rattle.calculus.proofs.Tidying.{free_tidy, of_free_tidy, tidy-ren, tidy-tidy}
use Rattle.calculus.proofs.TidySteps.{alike-under}

-- terms with one tidied form have the same free names
pub alike_free : (P Q : Term) → tidy P ≡ tidy Q → (n : ℕ) → Free n P → Free n Q
alike_free P Q e n f = of_free_tidy n Q (subst (λ X. Free n X) e (free_tidy n P f))

tidy-fill : (α : Action) (A B : Term) → tidy A ≡ tidy B → tidy (fill α A) ≡ tidy (fill α B)
tidy-fill silent A B e = e
tidy-fill (input a x) A B e = tidy-ren (inst x) A ∙ ap (ren (inst x)) e ∙ sym (tidy-ren (inst x) B)
tidy-fill (output a b) A B e = e
tidy-fill (new_output a x) A B e = tidy-ren (inst x) A ∙ ap (ren (inst x)) e ∙ sym (tidy-ren (inst x) B)

-- the bound name of an action that avoids Q, or any fresh one
fresh_in_lem : (Q : Term) → (x : ℕ) × (¬ Free x Q)
fresh_in_lem Q = let (x, h) = fresh-name (fn Q) in (x, λ f. h (free→fn x Q f))

own_name : (α : Action) (Q : Term) → Avoids α Q → (x : ℕ) × (¬ Free x Q) × (α ≡ named x (act α))
own_name silent Q h = let (x, k) = fresh_in_lem Q in (x, k, refl)
own_name (input a x) Q h = (x, h x (inl refl), refl)
own_name (output a b) Q h = let (x, k) = fresh_in_lem Q in (x, k, refl)
own_name (new_output a x) Q h = (x, h x (inl refl), refl)

module _ (Δ : Defs) where
  -- Q makes the transition (M, α) to a term that P' is when both are tidied
  pub record AlsoMoves (Q : Term) (M : Cond) (α : Action) (P' : Term) : Type 0 where
    pub result : Term
    pub transition : Transition Δ Q M α result
    pub tidied : tidy result ≡ tidy P'

-- Under definitions whose bodies have one tidied form.
module _ (Δ Δ₁ : Defs) (arities : (k : ℕ) → Δ.arity k ≡ Δ₁.arity k) (bodies : (k : ℕ) → tidy (Δ.body k) ≡ tidy (Δ₁.body k)) where
  pub also_under : (P Q : Term) → tidy P ≡ tidy Q → {M : Cond} {α : Action} {P' : Term} → Transition Δ P M α P' → AlsoMoves Δ₁ Q M α P'
  also_under P Q e (Canon {N = N} {α = α} {P' = P'} t h) =
      let u = unname Δ t in
      let k = alike-under Δ Δ₁ arities bodies P Q e u.step in
      let (x, hx, eα) = own_name α Q (λ y i f. h y i (alike_free Q P (sym e) y f)) in
      let l = name_it Δ₁ k.step x hx in
      let c : canonical l.cond ≡ canonical N = canonical-same l.cond N (~_trans l.cond k.cond N l.same k.conds) in
      subst₂
      (λ C β. AlsoMoves Δ₁ Q C (ren_action (cls C) β) (ren (cls C) P'))
      c (sym eα)
      (record {
        result = ren (cls (canonical l.cond)) (fill (named x (act α)) k.resid);
        transition = Canon l.step (avoids_named x (act α) Q hx);
        tidied = tidy-ren (cls (canonical l.cond)) (fill (named x (act α)) k.resid)
            ∙ ap (ren (cls (canonical l.cond)))
            (tidy-fill (named x (act α)) k.resid u.abs k.resids ∙ ap (λ β. tidy (fill β u.abs)) (sym eα) ∙ ap tidy (sym u.filled))
            ∙ sym (tidy-ren (cls (canonical l.cond)) P');
      })

module _ (Δ : Defs) where
  pub also_moves : (P Q : Term) → tidy P ≡ tidy Q → {M : Cond} {α : Action} {P' : Term} → Transition Δ P M α P' → AlsoMoves Δ Q M α P'
  also_moves P Q e t = also_under Δ Δ (λ k. refl) (λ k. refl) P Q e t

  -- for a term and its tidied form
  pub tidy-moves : (P : Term) {M : Cond} {α : Action} {P' : Term} → Transition Δ P M α P' → AlsoMoves Δ (tidy P) M α P'
  tidy-moves P t = also_moves P (tidy P) (sym (tidy-tidy P)) t

  pub of_tidy_moves : (P : Term) {M : Cond} {α : Action} {P' : Term} → Transition Δ (tidy P) M α P' → AlsoMoves Δ P M α P'
  of_tidy_moves P t = also_moves (tidy P) P (tidy-tidy P) t
