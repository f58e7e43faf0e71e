-- The limit of names: a step in a list binds a name exactly if a move does. Assumes nothing.
use mathlib.Core.Bool.{Bool, true, false, ◌||◌}
use mathlib.Core.List.{List, [], ◌∷◌}
use mathlib.Core.Logic.{inl, inr, ◌↔◌}
use mathlib.Core.Path.{◌≡◌, refl, sym, ◌∙◌, ap, subst}
use native.Mathlib.Omega.{arith}
use Prim.Native.Nat.{ℕ}
use Rattle.calculus.specs.Term.{Term}
use Rattle.calculus.specs.Free.{In}
use Rattle.calculus.specs.Cond.{Cond}
use Rattle.calculus.specs.Definitions.{Defs}
use Rattle.calculus.specs.Published.{Action, silent, input, output, new_output, bound_names}
use Rattle.calculus.specs.Lists.{◌∈◌}
use Rattle.steps.specs.Derived.{Derived}
use Rattle.steps.specs.Listed.{ListedStep, kind_of, listed_as}
use Rattle.field.specs.Setting.{Setting}
use Rattle.field.specs.Successors.{binds_name, some_binds}
use Rattle.field.specs.Field.{Move}
use Rattle.field.proofs.MoveLaws.{listed_move, move_derived, derived_move}

binds_bound : (names : ℕ) (M : Cond) (α : Action) (R : Term) → binds_name (listed_as names M α R) ≡ true → (y : ℕ) × In y (bound_names α)
unfolding binds_name listed_as kind_of
binds_bound names M silent R e = let z : ◌≡◌ {A = ℕ} 0 1 = cc in absurd (omega arith)
binds_bound names M (input a x) R e = (x, inl refl)
binds_bound names M (output a b) R e = let z : ◌≡◌ {A = ℕ} 0 1 = cc in absurd (omega arith)
binds_bound names M (new_output a x) R e = (x, inl refl)

bound_binds : (names : ℕ) (M : Cond) (α : Action) (R : Term) (y : ℕ) → In y (bound_names α) → binds_name (listed_as names M α R) ≡ true
unfolding binds_name listed_as kind_of
bound_binds names M silent R y i = elim i [ ]
bound_binds names M (output _ _) R y i = elim i [ ]
bound_binds names M (input a x) R y i = refl
bound_binds names M (new_output a x) R y i = refl

some_binds_lem : (ss : List ListedStep) → some_binds ss ≡ true → (s : ListedStep) × (s ∈ ss) × (binds_name s ≡ true)
unfolding some_binds
some_binds_lem [] e = let z : ◌≡◌ {A = ℕ} 0 1 = cc in absurd (omega arith)
some_binds_lem (s ∷ ss) e = go (binds_name s) refl e (some_binds_lem ss)
  where
    go : (b : Bool) → binds_name s ≡ b → (b || some_binds ss) ≡ true → (some_binds ss ≡ true → (t : ListedStep) × (t ∈ ss) × (binds_name t ≡ true))
        → (t : ListedStep) × (t ∈ (s ∷ ss)) × (binds_name t ≡ true)
    go true h e r = (s, inl refl, h)
    go false h e r = let (t, m, k) = r e in (t, inr m, k)

binds_some : (ss : List ListedStep) (s : ListedStep) → s ∈ ss → binds_name s ≡ true → some_binds ss ≡ true
unfolding some_binds
binds_some [] s x'' h = elim x'' [ ]
binds_some (t ∷ ss) s (inl e) h = ap (λ b. b || some_binds ss) (ap binds_name (sym e) ∙ h)
binds_some (t ∷ ss) s (inr m) h = go (binds_name t) (binds_some ss s m h)
  where
    go : (b : Bool) → some_binds ss ≡ true → (b || some_binds ss) ≡ true
    go true e = refl
    go false e = e

module _ (Δ : Defs) (S : Setting) {x : ℕ} {P : Term} (ss : List ListedStep) (lists : (s : ListedStep) → (s ∈ ss) ↔ Derived S.form Δ S.names x P s) where
  pub binding_move : some_binds ss ≡ true → (m : Move Δ S x P) × (y : ℕ) × In y (bound_names m.action)
  binding_move e =
      let (s, k, h) = some_binds_lem ss e in
      let (m, d) = derived_move Δ S ((lists s).0 k) in
      let (y, i) = binds_bound S.names m.condition m.action (S.form m.result) (subst (λ t. binds_name t ≡ true) d h) in
      (m, y, i)

  pub move_binds : (m : Move Δ S x P) (y : ℕ) → In y (bound_names m.action) → some_binds ss ≡ true
  move_binds m y i =
      binds_some ss (listed_move Δ S m) ((lists (listed_move Δ S m)).1 (move_derived Δ S m)) (bound_binds S.names m.condition m.action (S.form m.result) y i)
