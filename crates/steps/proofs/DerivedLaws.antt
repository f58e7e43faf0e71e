-- What a derived step says of its term: the names of its condition. Assumes nothing.
use Prim.Native.Nat.{ℕ}
use Rattle.calculus.specs.Term.{Term}
use Rattle.calculus.specs.Free.{Free}
use Rattle.calculus.specs.Cond.{Cond, canonical}
use Rattle.calculus.specs.Definitions.{Defs}
use Rattle.calculus.specs.Published.{Action, Transition, Canon}
use Rattle.calculus.proofs.Canonical.{canonical-~}
use Rattle.calculus.proofs.Conditions.{Occ, occ_▷}
use Rattle.calculus.proofs.PublishedSteps.{unname}
use Rattle.calculus.proofs.WorkingNames.{cond_free}

module _ (Δ : Defs) where
  -- a name that the condition matches with another is free in the term
  pub transition_names : {P : Term} {M : Cond} {α : Action} {P' : Term} → Transition Δ P M α P' → (n : ℕ) → Occ n M → Free n P
  transition_names (Canon {N = N} s av) n o = cond_free Δ (unname Δ s).step n (occ_▷ n (canonical N) N (canonical-~ N).1 o)
