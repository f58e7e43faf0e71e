use Rattle.field_successors.proofs.ResultLaws.{copies_result}
use Rattle.field_successors.proofs.results.copy_result.Goals as goal

pub returns : goal.returns
returns c = copies_result _ _ _ _ _ c.copy.ensures
