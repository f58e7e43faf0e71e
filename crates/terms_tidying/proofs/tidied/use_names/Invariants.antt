use mathlib.Core.Path.{◌≡◌}
use lib.ListN.{length, take}
use Rattle.terms_tidying.specs.TidiedTerms.{KeepsBytes}
use Rattle.terms_tidying.proofs.tidied.use_names.Given as goal

abbrev pub invariant-loop-x : goal.invariant-loop-x
invariant-loop-x l = (length l.waits ≡ length l.initial.waits) × KeepsBytes l.depth (take l.x-index l.names) l.initial.waits l.waits
