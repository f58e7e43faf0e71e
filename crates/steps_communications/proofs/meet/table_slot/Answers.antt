use Rattle.steps_splicing.specs.Locating.{table_slot}
use borrow.Author.Tests.{le-leb, lt-leb}
use Rattle.terms_bytes.specs.NameTable.{last_name}
use Rattle.steps_communications.proofs.meet.table_slot.Goals as goal

pub returns-then-slot-le-LAST_NAME : goal.returns-then-slot-le-LAST_NAME
unfolding table_slot
returns-then-slot-le-LAST_NAME c = simp (le-leb c.args.slot last_name c.if-slot-le-LAST_NAME.true)

pub returns-else-slot-le-LAST_NAME : goal.returns-else-slot-le-LAST_NAME
unfolding table_slot
returns-else-slot-le-LAST_NAME c = simp (lt-leb c.args.slot last_name c.if-slot-le-LAST_NAME.false)
