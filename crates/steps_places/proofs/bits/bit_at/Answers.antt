use Rattle.steps_places.specs.PlaceTable.{bit}
use mathlib.Core.Path.{refl}
use Rattle.steps_places.proofs.bits.bit_at.Goals as goal

pub returns : goal.returns
unfolding bit
returns c = refl
