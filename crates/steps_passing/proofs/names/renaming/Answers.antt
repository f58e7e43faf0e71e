use Rattle.steps_conditions.proofs.NameSlots.{table_done}
use Rattle.steps_passing.proofs.names.renaming.Goals as goal

pub returns : goal.returns
returns c =
    let a = c.args in
    table_done a.names.now a.binders a.levels _ _ _ c.free_bytes.ensures c.bound_bytes.ensures
