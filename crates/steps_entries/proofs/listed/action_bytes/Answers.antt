use mathlib.Core.Path.{sym, ap, ◌∙◌}
use Rattle.steps_entries.proofs.StepEntries.{same_action}
use Rattle.steps_entries.specs.EntryBytes.{action_bytes}
use Rattle.steps_entries.proofs.listed.action_bytes.Goals as goal

pub returns-in-Silent : goal.returns-in-Silent
unfolding action_bytes
returns-in-Silent c = ap (action_bytes c.args.class.now c.args.x) (sym c.in-Silent.is)

pub returns-in-Input : goal.returns-in-Input
unfolding action_bytes
returns-in-Input c =
    same_action 1 c.get.ensures c.object_byte.ensures ∙ ap (action_bytes c.args.class.now c.args.x) (sym c.in-Input.is)

pub returns-in-Output : goal.returns-in-Output
unfolding action_bytes
returns-in-Output c =
    same_action 2 c.get-in-Output.ensures c.object_byte-in-Output.ensures ∙ ap (action_bytes c.args.class.now c.args.x) (sym c.in-Output.is)

pub returns-in-NewOutput : goal.returns-in-NewOutput
unfolding action_bytes
returns-in-NewOutput c =
    same_action 3 c.get-in-NewOutput.ensures c.object_byte-in-NewOutput.ensures ∙ ap (action_bytes c.args.class.now c.args.x) (sym c.in-NewOutput.is)
