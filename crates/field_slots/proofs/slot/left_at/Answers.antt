use mathlib.Core.Path.{ap}
use lib.Dec.{eqb}
use Rattle.field_pairs.specs.Slot.{LeftAtIs}
use Rattle.field_slots.proofs.slot.left_at.Goals as goal

pub returns : goal.returns
unfolding LeftAtIs
returns c = ap (λ b. eqb b 0) c.get.ensures
