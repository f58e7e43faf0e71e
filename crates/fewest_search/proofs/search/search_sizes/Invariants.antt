use mathlib.Core.Path.{◌≡◌}
use Rattle.std.specs.Prelude.{Ok}
use lib.ListN.{length}
use Rattle.fewest_search.proofs.SearchLaws.{SizesTo}
use Rattle.fewest_search.proofs.search.search_sizes.Given as goal

abbrev pub invariant-loop-size : goal.invariant-loop-size
invariant-loop-size l = (length l.work ≡ length l.initial.work) × SizesTo l.question l.pairs l.flags l.capacity l.initial.work l.size (Ok l.best) l.work
