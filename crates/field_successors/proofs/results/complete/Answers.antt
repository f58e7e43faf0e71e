use Rattle.field_successors.proofs.LeadingLaws.{completes, completes_none}
use Rattle.field_slots.proofs.UpdateLaws.{kept_is}
use Rattle.field_successors.proofs.results.complete.Goals as goal

pub returns-then-none_apart : goal.returns-then-none_apart
returns-then-none_apart c =
    completes_none _ _ _ _ _ c.none_apart.ensures c.if-none_apart.true c.copy.ensures

pub returns : goal.returns
returns c =
    completes _ _ _ _ _ _ c.free_of_parts-free.ensures (kept_is _ _) c.pack.ensures
