-- What the list of a term's steps must be: the listed steps that Table 4.1 with rule Canon derives, for a given new name.
use Rattle.std.specs.Prelude.{List, [], ◌∷◌, ◌⊎◌, ◌↔◌, ◌≡◌, ℕ, ◌<◌, length}
use Prim.Native.Nat.{Ordering}
use Rattle.calculus.specs.Term.{Term}
use Rattle.calculus.specs.Free.{In}
use Rattle.calculus.specs.Cond.{Cond}
use Rattle.calculus.specs.Definitions.{Defs}
use Rattle.calculus.specs.Published.{Action, bound_names, Transition}
use Rattle.calculus.specs.Lists.{◌∈◌, All, Distinct}
use Rattle.calls.specs.ReachLimit.{PastCalls}
use Rattle.steps.specs.Limits.{most_reached}
use Rattle.steps.specs.Listed.{ListedStep, listed_as, result_bytes, bytes}
use Rattle.steps.specs.Listing.{order, Listing, unsettled, listed}

-- each step's bytes come before those of every later one
abbrev pub Ascending : ℕ → List ListedStep → Type 0
Ascending longest [] = Unit
Ascending longest (s ∷ ss) = All (λ t. order (bytes longest s) (bytes longest t) ≡ Ordering.lt) ss × Ascending longest ss

-- Results are listed in the form given.
module _ (form : Term → Term) (Δ : Defs) where
  pub record Derived (names x : ℕ) (P : Term) (s : ListedStep) : Type 0 where
    pub condition : Cond
    pub action : Action
    pub result : Term
    pub transition : Transition Δ P condition action result
    -- the name received or extruded is x
    pub binds : (y : ℕ) → In y (bound_names action) → y ≡ x
    pub listed : s ≡ listed_as names condition action (form result)

  -- more than `most` distinct steps are derived
  pub record TooMany (names most x : ℕ) (P : Term) : Type 0 where
    pub steps : List ListedStep
    pub distinct : Distinct steps
    pub derived : All (Derived names x P) steps
    pub many : most < length steps

  -- a step is derived whose result has more than `longest` bytes
  pub record TooLong (names longest x : ℕ) (P : Term) : Type 0 where
    pub step : ListedStep
    pub derived : Derived names x P step
    pub long : longest < length (result_bytes step)

  pub record ListsExactly (names longest most x : ℕ) (P : Term) (r : Listing) : Type 0 where
    -- a step stands in the list exactly if it is derived
    pub members : (ss : List ListedStep) → r ≡ listed ss → (s : ListedStep) → (s ∈ ss) ↔ Derived names x P s
    pub ascending : (ss : List ListedStep) → r ≡ listed ss → Ascending longest ss
    -- past a limit: too many steps, a long result, or a call that reaches too many (request 2026-01)
    pub limits : (r ≡ unsettled) ↔ (TooMany names most x P ⊎ TooLong names longest x P ⊎ PastCalls Δ most_reached P)
