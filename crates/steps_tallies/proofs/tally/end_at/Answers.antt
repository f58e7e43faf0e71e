use Rattle.steps_tallies.specs.Tally.{end_at}
use Rattle.steps_tallies.proofs.tally.end_at.Goals as goal

pub returns : goal.returns
unfolding end_at
returns c = c.number.ensures
