use Rattle.terms_checks.proofs.CheckWhole.{edition_says}
use Rattle.terms_checks.proofs.check.is_counted.Goals as goal

pub returns : goal.returns
returns c = edition_says c.args.question.now c.get.result c.get.ensures
