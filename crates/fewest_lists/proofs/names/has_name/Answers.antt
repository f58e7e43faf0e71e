use mathlib.Core.Path.{ap, ◌∙◌}
use Rattle.std.proofs.lemmas.List.{take_rest}
use Rattle.calculus.specs.Distinction.{among}
use Rattle.fewest_lists.proofs.NameLaws.{any_among}
use Rattle.fewest_lists.proofs.names.has_name.Goals as goal

pub returns : goal.returns
returns c = c.contains.ensures.value ∙ any_among _ c.args.n ∙ ap (λ l. among l c.args.n) (take_rest c.args.names.now c.args.at)
