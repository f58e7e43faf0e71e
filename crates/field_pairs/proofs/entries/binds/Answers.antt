use mathlib.Core.Path.{sym, ◌∙◌}
use Rattle.field_pairs.proofs.EntryLaws.{binds_input, binds_other}
use Rattle.field_pairs.proofs.entries.binds.Goals as goal

pub returns-then-kind-eq1 : goal.returns-then-kind-eq1
returns-then-kind-eq1 c = rw c.if-kind-eq1.true (binds_input _ _ (sym c.get-kind.ensures ∙ c.if-kind-eq1.true))

pub returns-else-kind-eq1 : goal.returns-else-kind-eq1
returns-else-kind-eq1 c = rw c.get-kind.ensures (binds_other _ _ (λ q. c.if-kind-eq1.false (c.get-kind.ensures ∙ q)))
