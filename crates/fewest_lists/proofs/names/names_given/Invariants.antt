use mathlib.Core.Path.{◌≡◌}
use lib.ListN.{drop}
use Rattle.fewest.specs.Apart.{names_given}
use Rattle.fewest_lists.proofs.NameLaws.{each}
use Rattle.fewest_lists.proofs.names.names_given.Given as goal

abbrev pub invariant-loop-i : goal.invariant-loop-i
invariant-loop-i l = names_given l.names ≡ each (drop l.i l.names)
