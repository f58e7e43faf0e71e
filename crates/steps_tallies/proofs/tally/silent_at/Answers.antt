use Rattle.steps_tallies.specs.Tally.{silent_at}
use Rattle.steps_tallies.proofs.tally.silent_at.Goals as goal

pub returns : goal.returns
unfolding silent_at
returns c = c.number.ensures
