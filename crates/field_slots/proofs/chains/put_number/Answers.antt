use Rattle.field_slots.specs.Chains.{put_number}
use mathlib.Core.Path.{refl}
use Rattle.field_slots.proofs.chains.put_number.Goals as goal

pub returns : goal.returns
unfolding put_number
returns c = refl
