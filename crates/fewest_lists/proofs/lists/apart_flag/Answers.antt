use mathlib.Core.Path.{ap, ap₂, ◌∙◌}
use Rattle.terms.specs.Operations.{holds_apart}
use Rattle.field_pairs.specs.Slot.{flag}
use Rattle.fewest_lists.specs.Lists.{ApartFlagIs}
use Rattle.fewest_lists.proofs.FlagLaws.{flag_from}
use Rattle.fewest_lists.proofs.lists.apart_flag.Goals as goal

pub returns : goal.returns
unfolding ApartFlagIs
returns c =
    λ D e. c.from.ensures ∙ flag_from _ ∙ ap flag (c.holds_apart.ensures D e ∙ ap₂ (holds_apart D) c.pair_of-pair.ensures.first.is
    c.pair_of-pair.ensures.second.is)
