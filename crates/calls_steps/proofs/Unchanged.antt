-- Where every body is guarded, as check 11 asked before request 2026-01, the candidates of every term are those that it had: a call has itself for
-- its only place. Assumes nothing.
use mathlib.Core.List.{List}
use mathlib.Core.Path.{◌≡◌, sym, ◌∙◌, ap, ap₂, fun_ext}
use Prim.Native.Nat.{ℕ, suc, ◌≤◌}
use Rattle.calculus.specs.Definitions.{Defs}
use Rattle.calculus.specs.Term.{Term}
use Rattle.calls.specs.Reach.{Guarded}
use Rattle.calls.proofs.Theorems.{guarded-alone}
use Rattle.steps.specs.Raw.{visible_of, silent_of, visible_calls, silent_calls, visible, silent, of_places, places_in}
use Rattle.steps.proofs.CallCandidates.{alone, visible-alone, silent-alone}
use Rattle.calls_steps.specs.Expanding.{visible_reached, silent_reached, visible_full, silent_full}

module _ (Δ : Defs) (limit depth : ℕ) (some : 1 ≤ limit) (guarded : (k : ℕ) → Guarded (Δ.body k)) where
  visible-reached : (k : ℕ) (xs : List ℕ) → visible_reached Δ limit (suc depth) k xs ≡ visible_calls Δ.body 1 k xs
  unfolding visible_reached places_in visible_calls visible
  visible-reached k xs =
      ap (λ s. of_places (visible Δ.body 0) Δ.body (places_in s)) (guarded-alone Δ limit depth k xs some (guarded k))
      ∙ alone (visible Δ.body 0) Δ.body k xs ∙ sym (visible-alone Δ.body 0 k xs (guarded k))

  silent-reached : (k : ℕ) (xs : List ℕ) → silent_reached Δ limit (suc depth) k xs ≡ silent_calls Δ.body 1 k xs
  unfolding silent_reached places_in silent_calls silent
  silent-reached k xs =
      ap (λ s. of_places (silent Δ.body 0) Δ.body (places_in s)) (guarded-alone Δ limit depth k xs some (guarded k))
      ∙ alone (silent Δ.body 0) Δ.body k xs ∙ sym (silent-alone Δ.body 0 k xs (guarded k))

  pub visible-unchanged : (P : Term) → visible_full Δ limit (suc depth) P ≡ visible Δ.body 1 P
  unfolding visible_full visible
  visible-unchanged P = ap (λ f. visible_of f P) (fun_ext (λ k. fun_ext (λ xs. visible-reached k xs)))

  pub silent-unchanged : (P : Term) → silent_full Δ limit (suc depth) P ≡ silent Δ.body 1 P
  unfolding silent_full silent
  silent-unchanged P =
      ap₂ (λ f g. silent_of f g P) (fun_ext (λ k. fun_ext (λ xs. visible-reached k xs))) (fun_ext (λ k. fun_ext (λ xs. silent-reached k xs)))
