use Rattle.terms_bytes.specs.Counted.{edition_from}
use Rattle.terms_checks.proofs.CheckWhole.{own_checked}
use Rattle.terms_checks.proofs.check.check.Goals as goal

-- src/check.rt:301:1
pub returns : goal.returns
returns c = let a = c.args in own_checked (edition_from c.is_counted.result) a.question.now c.check_in.result c.is_counted.ensures c.check_in.ensures
