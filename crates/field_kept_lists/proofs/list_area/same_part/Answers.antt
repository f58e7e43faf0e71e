use mathlib.Core.Path.{sym, ◌∙◌}
use lib.Pointwise.{bytes_decides}
use Rattle.field_kept_lists.proofs.list_area.same_part.Goals as goal

pub returns : goal.returns
returns c = λ t. (bytes_decides _ _).0 (sym c.eq.ensures ∙ t)
