use mathlib.Core.Path.{sym, ◌∙◌}
use Rattle.field_kept_lists.proofs.LabelLaws.{count_of}
use Rattle.field_kept_lists.proofs.list_area.steps_in.Goals as goal

pub returns : goal.returns
returns c = c.size_at.ensures.0 ∙ sym (count_of _ _)
