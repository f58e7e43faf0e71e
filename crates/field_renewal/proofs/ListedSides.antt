-- A situation taken up: whether a step binds a name, and what the lists of both sides say of its successors. Assumes nothing.
use mathlib.Core.List.{[]}
use Rattle.calculus.specs.Term.{nil}
use Rattle.steps.specs.Listed.{ListedStep}

-- a step, where a list has none
pub blank : ListedStep
blank = record { classes = []; kind = 0; channel = 0; object = 0; result = nil }
