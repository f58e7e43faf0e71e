use borrow.Author.Tests.{lt-ltb, le-ltb, lt-leb}
use Rattle.steps_communications.specs.Meeting.{is_between}
use Rattle.steps_communications.proofs.meet.is_between.Goals as goal

pub returns-then-low-c : goal.returns-then-low-c
unfolding is_between
returns-then-low-c c = simp (le-ltb c.args.c c.args.low c.if-low-c.true)

pub returns-else-low-c : goal.returns-else-low-c
unfolding is_between
returns-else-low-c c = simp (lt-ltb c.args.c c.args.low c.if-low-c.false) (lt-leb c.args.low c.args.c c.if-low-c.false)
