use mathlib.Core.Path.{sym, ◌∙◌}
use Rattle.steps_reach.proofs.TableLaws.{held_other, held_same}
use Rattle.steps_reach.proofs.table.is_call.Goals as goal

pub returns-then-k-definition : goal.returns-then-k-definition
returns-then-k-definition c =
    let a = c.args in
    held_other a.table.now a.definition a.names.now a.count a.row (λ e. c.if-k-definition.true (c.get-k.ensures ∙ e))

pub returns : goal.returns
returns c =
    let a = c.args in
    held_same a.table.now a.definition a.names.now a.count a.row (sym c.get-k.ensures ∙ c.if-k-definition.false) _
    c.same_names.ensures
