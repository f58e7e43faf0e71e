use mathlib.Core.Path.{sym, ◌∙◌}
use native.Mathlib.Omega.{arith}
use Rattle.small_parts_words.proofs.PartLaws.{keeps, passes}
use Rattle.small_parts_words.proofs.parts.keep_part.Goals as goal

pub offset_bounds-kept-count : goal.offset_bounds-kept-count
offset_bounds-kept-count c = omega (arith, c.requires.few)

pub bounds-kept-count : goal.bounds-kept-count
bounds-kept-count c = c.requires.room (sym c.is_part.ensures ∙ c.if-is_part.true)

pub overflow_add-result : goal.overflow_add-result
overflow_add-result c = omega (arith, c.requires.few)

pub returns-then-is_part : goal.returns-then-is_part
returns-then-is_part c = keeps _ _ _ _ (sym c.is_part.ensures ∙ c.if-is_part.true)

pub returns : goal.returns
returns c = passes _ _ _ _ (sym c.is_part.ensures ∙ c.if-is_part.false)
