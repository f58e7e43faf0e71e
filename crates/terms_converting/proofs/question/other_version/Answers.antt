use Rattle.terms.specs.Edition.{version_byte}
use Rattle.terms_bytes.specs.Counted.{edition_from}
use Rattle.terms_converting.proofs.question.other_version.Goals as goal

pub returns-then-counted : goal.returns-then-counted
unfolding edition_from version_byte
returns-then-counted c = rw c.if-counted.true

-- src/question.rt:61:1
pub returns-else-counted : goal.returns-else-counted
unfolding edition_from version_byte
returns-else-counted c = rw c.if-counted.false
