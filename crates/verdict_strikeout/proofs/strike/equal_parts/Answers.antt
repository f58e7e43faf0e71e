use mathlib.Core.Path.{sym, ◌∙◌}
use Rattle.field_slots.specs.Key.{FirstPartIs, SecondPartIs}
use Rattle.verdict_answers.specs.Striking.{EqualPartsIs}
use Rattle.verdict_strikeout.proofs.strike.equal_parts.Goals as goal

pub returns : goal.returns
unfolding EqualPartsIs FirstPartIs SecondPartIs
returns c = λ e s h. sym (c.first_part-first.ensures s h) ∙ c.same_part.ensures e ∙ c.second_part-second.ensures s h
