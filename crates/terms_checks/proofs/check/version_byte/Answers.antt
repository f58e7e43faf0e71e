use Rattle.terms.specs.Edition.{version_byte}
use Rattle.terms_bytes.specs.Counted.{edition_from}
use Rattle.terms_checks.proofs.check.version_byte.Goals as goal

pub returns-then-counted : goal.returns-then-counted
unfolding edition_from version_byte
returns-then-counted c = let a = c.args in rw c.if-counted.true

-- src/check.rt:265:1
pub returns-else-counted : goal.returns-else-counted
unfolding edition_from version_byte
returns-else-counted c = let a = c.args in rw c.if-counted.false
