use mathlib.Core.Path.{refl}
use Rattle.steps_tallies.specs.Tally.{visible_call, silent_call}
use Rattle.steps_tallies.specs.Tallying.{call_entry}
use Rattle.steps_tallies.proofs.tally.call_entry.Goals as goal

pub returns : goal.returns
unfolding call_entry visible_call silent_call
returns c = rw (c.visible_at.ensures, c.silent_at.ensures) refl
