use Rattle.field_successors.proofs.LeadingLaws.{free_of_parts}
use Rattle.field_successors.proofs.results.free_of_parts.Goals as goal

pub returns : goal.returns
returns c = free_of_parts _ _ _ _ _ c.part_at.ensures c.part_at-2.ensures c.free_in_either.ensures
