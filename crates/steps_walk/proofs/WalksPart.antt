-- The candidates of the walk, put into the list, are the steps of the part. Assumes nothing.
use mathlib.Core.List.{List}
use Prim.Native.Nat.{ℕ}
use Rattle.calculus.specs.Term.{Term}
use Rattle.terms.specs.Question.{Question}
use Rattle.terms.specs.Question.{body_of}
use Rattle.steps_splicing.specs.Collecting.{CollectIs}
use Rattle.steps_splicing.specs.ListedParts.{Lists}
use Rattle.steps_walk.specs.Walking.{walked}

-- The whole walk has put the part's candidates into the empty list.
abbrev pub WalksPart : List ℕ → List ℕ → ℕ → List ℕ → ℕ → List ℕ → Type 0
WalksPart question part x area n area' =
    (q : Question) (P : Term) → Lists question part x q P → CollectIs (walked (body_of q.bodies) P) x area 0 n area'
