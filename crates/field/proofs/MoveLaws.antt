-- Moves of a term in scope, whose new name is not free in it: their conditions, their results, and the listed steps that they are.
-- Assumes nothing.
use mathlib.Core.List.{List, [], ◌∷◌}
use mathlib.Core.Logic.{◌⊎◌, inl, inr}
use mathlib.Core.Path.{◌≡◌, refl, sym, subst}
use native.Mathlib.Omega.{arith}
use Prim.Native.Nat.{ℕ, zero, suc, ◌<◌}
use Rattle.calculus.specs.Term.{Term, ren, inst}
use Rattle.calculus.specs.Free.{In, Free}
use Rattle.calculus.specs.Cond.{Cond, cls, canonical}
use Rattle.calculus.specs.Definitions.{Defs}
use Rattle.calculus.specs.Published.{Action, silent, input, output, new_output, bound_names, ren_action, Transition, Canon}
use Rattle.calculus.proofs.Conditions.{E1, cls_le}
use Rattle.calculus.proofs.FreeNames.{From, of_free_ren}
use Rattle.calculus.proofs.PublishedSteps.{act, fill, unname}
use Rattle.calculus.proofs.Renaming.{ren_triangle}
use Rattle.calculus.proofs.Working.{Trans}
use Rattle.calculus.proofs.WorkingNames.{resid_free}
use Rattle.terms.specs.Encoding.{InScope}
use Rattle.terms.proofs.ScopeLaws.{free_below}
use Rattle.steps.proofs.Scope.{CallsInScope, scope_calls, in_scope, calls_ren, calls_residual}
use Rattle.steps.specs.Derived.{Derived}
use Rattle.steps.specs.Listed.{ListedStep, listed_as}
use Rattle.steps.proofs.ClassLists.{Within, unmatched}
use Rattle.steps.proofs.DerivedLaws.{transition_names}
use Rattle.field.specs.Setting.{Setting}
use Rattle.field.specs.Field.{Move}

-- an abstraction filled with the bound name
calls_fill : (arities : List ℕ) (α : Action) (A : Term) → CallsInScope arities A → CallsInScope arities (fill α A)
calls_fill arities silent A c = c
calls_fill arities (input a x) A c = calls_ren arities A (inst x) c
calls_fill arities (output a b) A c = c
calls_fill arities (new_output a x) A c = calls_ren arities A (inst x) c

bound_renamed : (σ : ℕ → ℕ) (α : Action) → bound_names (ren_action σ α) ≡ bound_names α
bound_renamed σ silent = refl
bound_renamed σ (input a x) = refl
bound_renamed σ (output a b) = refl
bound_renamed σ (new_output a x) = refl

filled_free : (P : Term) (x : ℕ) (A : Term) → ((n : ℕ) → Free (suc n) A → Free n P) → (n : ℕ) → Free n (ren (inst x) A)
    → Free n P ⊎ In n (x ∷ [])
filled_free P x A h n f = go (of_free_ren (inst x) A n f)
  where
    go : From (inst x) A n → Free n P ⊎ In n (x ∷ [])
    go (zero, g, e) = inr (inl e)
    go (suc m, g, e) = inl (subst (λ k. Free k P) (sym e) (h m g))

module _ (Δ : Defs) where
  -- a free name of the abstraction so filled is free in the term or bound by the action
  fill_free : {P : Term} {M : Cond} (α : Action) {A : Term} → Trans Δ P M (act α) A → (n : ℕ) → Free n (fill α A) → Free n P ⊎ In n (bound_names α)
  fill_free silent t n f = inl (resid_free Δ t n f)
  fill_free {P} (input a x) {A} t n f = filled_free P x A (resid_free Δ t) n f
  fill_free (output a b) t n f = inl (resid_free Δ t n f)
  fill_free {P} (new_output a x) {A} t n f = filled_free P x A (resid_free Δ t) n f

  -- the result of a transition keeps below a number that is above the term's free names and above the bound name
  result-below : (bound : ℕ) {P : Term} {M : Cond} {α : Action} {P' : Term} → Transition Δ P M α P' → ((n : ℕ) → Free n P → n < bound)
      → ((n : ℕ) → In n (bound_names α) → n < bound) → (n : ℕ) → Free n P' → n < bound
  result-below bound {P} (Canon {N = N} {α = α} {P' = P'} s av) h k n f =
      let σ : ℕ → ℕ = cls (canonical N) in
      let u = unname Δ s in
      let (m, g, e) = of_free_ren σ P' n f in
      let l : m < bound = go m (fill_free α u.step m (subst (λ R. Free m R) u.filled g)) in
      omega (arith, cls_le (canonical N) m)
    where
      go : (m : ℕ) → Free m P ⊎ In m (bound_names α) → m < bound
      go m (inl g) = h m g
      go m (inr i) = k m (subst (λ ys. In m ys) (sym (bound_renamed (cls (canonical N)) α)) i)

  module _ (arities : List ℕ) (bodies : (k : ℕ) → CallsInScope arities (Δ.body k)) where
    result_calls : {P : Term} {M : Cond} {α : Action} {P' : Term} → Transition Δ P M α P' → CallsInScope arities P → CallsInScope arities P'
    result_calls (Canon {N = N} {α = α} {P' = P'} s av) c =
        let u = unname Δ s in
        calls_ren arities P' (cls (canonical N))
        (subst (CallsInScope arities) (sym u.filled) (calls_fill arities α u.abs (calls_residual arities Δ bodies u.step c)))

  -- rule Canon rewrites the result, and to do it again changes nothing
  result-rewritten : {P : Term} {M : Cond} {α : Action} {P' : Term} → Transition Δ P M α P' → ren (cls M) P' ≡ P'
  result-rewritten (Canon {N = N} {α = α} {P' = P'} s av) =
      let σ : ℕ → ℕ = cls (canonical N) in ren_triangle σ σ σ P' (E1 (canonical N))

  module _ (S : Setting) {x : ℕ} {P : Term} (m : Move Δ S x P) where
    -- a move as it is listed
    abbrev pub listed_move : ListedStep
    listed_move = listed_as S.names m.condition m.action (S.form m.result)

    pub move_derived : Derived S.form Δ S.names x P listed_move
    move_derived = record {
      condition = m.condition;
      action = m.action;
      result = m.result;
      transition = m.transition;
      binds = m.binds;
      listed = refl;
    }

    pub move_rewritten : ren (cls m.condition) m.result ≡ m.result
    move_rewritten = result-rewritten m.transition

    -- the new name is its own class
    pub move_fixes : ¬ Free x P → cls m.condition x ≡ x
    move_fixes fresh = unmatched m.condition x (λ o. fresh (transition_names Δ m.transition x o))

    module _ (arities : List ℕ) (scope : InScope S.names arities 0 P) where
      below : (n : ℕ) → Free n P → n < S.names
      below n f = let h = free_below S.names arities 0 P scope n f in omega arith

      pub move_within : Within S.names m.condition
      move_within n o = below n (transition_names Δ m.transition n o)

      -- its result is in scope, if a name that it binds is one of the names
      pub move_scope : ((k : ℕ) → CallsInScope arities (Δ.body k)) → ((y : ℕ) → In y (bound_names m.action) → y < S.names)
          → InScope S.names arities 0 m.result
      move_scope bodies bound =
          in_scope S.names arities 0 m.result
          (λ n f. let l = result-below S.names m.transition below bound n f in omega arith)
          (result_calls arities bodies m.transition (scope_calls S.names arities 0 P scope))

  -- a derived step is a move, listed
  pub derived_move : (S : Setting) {x : ℕ} {P : Term} {s : ListedStep} → Derived S.form Δ S.names x P s → (m : Move Δ S x P) × (s ≡ listed_move S m)
  derived_move S d = (
    record { condition = d.condition; action = d.action; result = d.result; transition = d.transition; binds = d.binds },
    d.listed,
  )
