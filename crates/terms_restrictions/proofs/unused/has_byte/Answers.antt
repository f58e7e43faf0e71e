use mathlib.Core.Path.{◌≡◌, ◌∙◌}
use lib.Dec.{eqb}
use Rattle.std.proofs.Common.{rules, tests}
use Rattle.std.proofs.lemmas.Iterator.{YieldsList-from_slice}
use Rattle.std.proofs.lemmas.Iterator.Search.{any_from_yields_List}
use Rattle.terms_restrictions.proofs.UnusedWalk.{any_among}
use Rattle.terms_restrictions.proofs.unused.has_byte.Goals as goal

pub returns : goal.returns
returns c =
    let a = c.args in
    any_from_yields_List (λ x. eqb x a.b) _ _ c.any.result c.any.ensures.ran (YieldsList-from_slice a.names.now cc) (λ x b q k. search (rules, tests))
    ∙ any_among a.names.now a.b
