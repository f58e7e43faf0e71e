use Rattle.field_taking_up.proofs.TakingLaws.{names-left, names-first, names-second}
use Rattle.field_taking_up.proofs.taking.past_names.Goals as goal

pub returns-then-x-ne-NAME_COUNT : goal.returns-then-x-ne-NAME_COUNT
returns-then-x-ne-NAME_COUNT c = names-left _ _ _ _ _ c.if-x-ne-NAME_COUNT.true

pub returns-then-some_binds : goal.returns-then-some_binds
returns-then-some_binds c = rw c.if-some_binds.true (names-first _ _ _ _ _ c.if-x-ne-NAME_COUNT.false _ c.some_binds.ensures c.if-some_binds.true)

pub returns-else-some_binds : goal.returns-else-some_binds
returns-else-some_binds c =
    names-second _ _ _ _ _ c.if-x-ne-NAME_COUNT.false _ c.some_binds.ensures c.if-some_binds.false _ c.some_binds-else-some_binds.ensures
