use Rattle.field_successors.proofs.ResultLaws.{rewrites_result, copied-same}
use borrow.Author.Rules.{rules}
use Rattle.field_successors.proofs.results.rewrite_result.Goals as goal

pub returns-then-same_classes : goal.returns-then-same_classes
returns-then-same_classes c = copied-same _ _ _ _ _ _ _ _ c.copy_result.ensures _ c.same_classes.ensures c.if-same_classes.true

pub returns : goal.returns
returns c =
    rewrites_result _ _ _ _ _ _ _ (search rules) (search rules) _ _ _
    c.copy_result.ensures c.rename.ensures
