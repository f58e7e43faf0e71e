use Rattle.field_growth.proofs.GrowingLaws.{name-none, name-received}
use Rattle.field_growth.proofs.growth.grow_name.Goals as goal

pub returns-then-not-is_received : goal.returns-then-not-is_received
returns-then-not-is_received c =
    name-none _ _ _ _ _ _ _ _ _ _ _ _ _ _ c.requires.0.slots.few (rw (c.if-not-is_received.true) at
    c.is_received.ensures)

pub returns : goal.returns
returns c =
    name-received _ _ _ _ _ _ _ _ _ _ _ _ _ _ (rw (c.if-not-is_received.false) at c.is_received.ensures) _ _
    c.grow_move.ensures
