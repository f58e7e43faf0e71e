use borrow.Author.Rules.{rules}
use Rattle.steps_placing.proofs.TakeLaws.{names-stored}
use Rattle.steps_placing.proofs.result.result_names.Goals as goal

pub returns : goal.returns
returns c = names-stored c.args.class.now _ _ (search rules) c.copy.ensures
