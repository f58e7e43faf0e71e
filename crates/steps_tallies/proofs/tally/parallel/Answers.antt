use mathlib.Core.Path.{refl}
use Rattle.steps_tallies.proofs.TallyLaws.{sums_fit, meetings_fit}
use Rattle.steps_tallies.specs.Tallying.{parallel_entry}
use Rattle.steps_tallies.proofs.tally.parallel.Goals as goal

pub overflow_add-result : goal.overflow_add-result
overflow_add-result c = (sums_fit _ _ c.requires.0 c.requires.1).0

pub overflow_add-result-2 : goal.overflow_add-result-2
overflow_add-result-2 c = (sums_fit _ _ c.requires.0 c.requires.1).1

pub overflow_mul-result : goal.overflow_mul-result
overflow_mul-result c = (meetings_fit _ _ c.requires.0 c.requires.1).0

pub overflow_add-result-3 : goal.overflow_add-result-3
overflow_add-result-3 c = (meetings_fit _ _ c.requires.0 c.requires.1).1

pub returns : goal.returns
unfolding parallel_entry
returns c = refl
