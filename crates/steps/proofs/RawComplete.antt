-- Every transition of the working presentation is among the candidates, up to an equivalent condition. Assumes nothing.
use mathlib.Core.Bool.{Bool, true, false}
use mathlib.Core.List.{List}
use mathlib.Core.Path.{sym, subst}
use Prim.Native.Nat.{ℕ, suc}
use Rattle.calculus.specs.Abstraction.{Act}
use Rattle.calculus.specs.Term.{Term, call}
use Rattle.calculus.specs.Cond.{Cond}
use Rattle.calculus.specs.Definitions.{Defs, opened}
use Rattle.calculus.proofs.Working.{Trans, t_call}
use Rattle.steps.specs.Raw.{Candidate, visible_calls, silent_calls, visible, silent}
use Rattle.calls.specs.Reach.{Guarded}
use Rattle.steps.proofs.CallCandidates.{each-guarded, visible-alone, silent-alone}
use Rattle.steps.proofs.Calls.{CallOpens, Opens}
use Rattle.steps.proofs.RawSound.{body_opens}
use Rattle.steps.proofs.CompleteOver.{called_of, candidates_of, complete_over}
pub use Rattle.steps.proofs.CompleteOver.{Yielded, is_silent}

module _ (Δ : Defs) where
  -- the silent candidates, or the visible ones
  abbrev pub candidates : Bool → ℕ → Term → List Candidate
  candidates true n P = silent Δ.body n P
  candidates false n P = visible Δ.body n P

  -- those of a call are those of its body
  opened-candidates : (s : Bool) (n k : ℕ) (xs : List ℕ) → Guarded (Δ.body k) → (M : Cond) (α : Act) (P' : Term)
      → Yielded (candidates_of (visible_calls Δ.body 0) (silent_calls Δ.body 0) s (opened xs (Δ.body k))) M α P'
      → Yielded (called_of (visible_calls Δ.body (suc n)) (silent_calls Δ.body (suc n)) s k xs) M α P'
  unfolding visible silent
  opened-candidates true n k xs g M α P' y = subst (λ cs. Yielded cs M α P') (sym (silent-alone Δ.body n k xs g)) y
  opened-candidates false n k xs g M α P' y = subst (λ cs. Yielded cs M α P') (sym (visible-alone Δ.body n k xs g)) y

  call_complete : (n k : ℕ) (xs : List ℕ) → CallOpens Δ n k xs → (M : Cond) (α : Act) (P' : Term) → Trans Δ (call k xs) M α P'
      → Yielded (called_of (visible_calls Δ.body n) (silent_calls Δ.body n) (is_silent α) k xs) M α P'
  call_complete Prim.Native.Nat.zero k xs o M α P' _ = elim o [ ]
  call_complete (suc n) k xs o M α P' (t_call e t) =
      opened-candidates (is_silent α) n k xs (each-guarded (Δ.body k) o.1) M α P'
      (complete_over (visible_calls Δ.body 0) (silent_calls Δ.body 0) Δ (CallOpens Δ 0) (λ l ys o. absurd o) (body_opens Δ n k xs o) t)

  of_candidates : (s : Bool) (n : ℕ) (P : Term) (M : Cond) (α : Act) (P' : Term)
      → Yielded (candidates_of (visible_calls Δ.body n) (silent_calls Δ.body n) s P) M α P' → Yielded (candidates s n P) M α P'
  unfolding silent visible
  of_candidates true n P M α P' y = y
  of_candidates false n P M α P' y = y

  pub raw_complete : (n : ℕ) {P : Term} {M : Cond} {α : Act} {P' : Term} → Opens Δ n P → Trans Δ P M α P'
      → Yielded (candidates (is_silent α) n P) M α P'
  raw_complete n {P} {M} {α} {P'} o t =
      of_candidates (is_silent α) n P M α P'
      (complete_over (visible_calls Δ.body n) (silent_calls Δ.body n) Δ (CallOpens Δ n) (call_complete n) o t)
