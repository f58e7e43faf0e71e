use Rattle.field_successors.proofs.ResultLaws.{receives_same, receives_result}
use borrow.Author.Rules.{rules}
use Rattle.field_successors.proofs.results.receive_result.Goals as goal

pub returns-then-x-y : goal.returns-then-x-y
returns-then-x-y c = receives_same _ _ _ _ _ _ _ _ c.copy_result.ensures c.if-x-y.true

pub returns : goal.returns
returns c =
    receives_result _ _ _ _ _ _ _ _ c.copy_result.ensures (search rules) _
    c.replacing-table.ensures _ _ c.rename.ensures
