use mathlib.Core.Path.{sym}
use Rattle.terms_bytes.specs.NameTable.{table_names}
use Rattle.steps_conditions.proofs.NameSlots.{turn_free, turn_bound, turn-past}
use Rattle.steps_passing.proofs.names.byte_of.Goals as goal

pub returns-then-slot-lt-FIRST_BINDER : goal.returns-then-slot-lt-FIRST_BINDER
returns-then-slot-lt-FIRST_BINDER c = sym (turn_free table_names 128 c.args.levels c.args.slot c.if-slot-lt-FIRST_BINDER.true)

pub returns-then-j-levels : goal.returns-then-j-levels
returns-then-j-levels c = sym (turn_bound table_names 128 c.args.levels c.args.slot c.if-slot-lt-FIRST_BINDER.false c.if-j-levels.true)

pub returns : goal.returns
returns c = sym (turn-past table_names 128 c.args.levels c.args.slot c.if-slot-lt-FIRST_BINDER.false c.if-j-levels.false)
