use Rattle.field_successors.proofs.StartLaws.{start_none, start-listed}
use Rattle.field_successors.proofs.start.start_pairs.Goals as goal

pub returns-then-differ : goal.returns-then-differ
returns-then-differ c = start_none _ _ c.if-differ.true

pub returns : goal.returns
returns c = start-listed _ _ _ c.if-differ.false c.mark_list.ensures
