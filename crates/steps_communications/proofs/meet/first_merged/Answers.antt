use borrow.Author.Tests.{le-leb, lt-leb}
use Rattle.steps_communications.specs.Meeting.{first_merged}
use Rattle.terms_bytes.specs.NameTable.{last_name}
use Rattle.steps_communications.proofs.meet.first_merged.Goals as goal

pub returns-then-c-le-LAST_NAME : goal.returns-then-c-le-LAST_NAME
unfolding first_merged
returns-then-c-le-LAST_NAME c = simp (le-leb c.args.c last_name c.if-c-le-LAST_NAME.true)

pub returns-else-c-le-LAST_NAME : goal.returns-else-c-le-LAST_NAME
unfolding first_merged
returns-else-c-le-LAST_NAME c = simp (lt-leb c.args.c last_name c.if-c-le-LAST_NAME.false)
