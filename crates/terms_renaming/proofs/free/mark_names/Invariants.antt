use mathlib.Core.Path.{◌≡◌}
use lib.ListN.{take}
use Rattle.terms_renaming.specs.FreeFlags.{marks}
use Rattle.terms_renaming.proofs.free.mark_names.Given as goal

abbrev pub invariant-loop-x : goal.invariant-loop-x
invariant-loop-x l = l.flags ≡ marks l.initial.flags (take l.x-index l.names)
