use borrow.Author.Tests.{lt-ltb, le-ltb}
use Rattle.steps_rows.specs.Rows.{action_kind}
use Rattle.steps_communications.proofs.meet.action_kind.Goals as goal

pub returns-then-kind-gt-MATCHED : goal.returns-then-kind-gt-MATCHED
unfolding action_kind
returns-then-kind-gt-MATCHED c = simp (lt-ltb 4 c.args.kind c.if-kind-gt-MATCHED.true)

pub returns-else-kind-gt-MATCHED : goal.returns-else-kind-gt-MATCHED
unfolding action_kind
returns-else-kind-gt-MATCHED c = simp (le-ltb 4 c.args.kind c.if-kind-gt-MATCHED.false)
