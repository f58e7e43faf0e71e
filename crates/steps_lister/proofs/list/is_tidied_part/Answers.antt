use mathlib.Core.Path.{subst}
use Rattle.terms_tidying.specs.TidiedTerms.{IsTidiedIs}
use Rattle.steps_lister.specs.PartLister.{Restricted}
use Rattle.steps_lister.proofs.TidiedListing.{plain_tidied, walked-tidied}
use Rattle.steps_lister.proofs.list.is_tidied_part.Goals as goal

pub returns-then-not-restricted : goal.returns-then-not-restricted
returns-then-not-restricted c = λ e. plain_tidied _ _ (subst (Restricted _ _) (c.if-not-restricted.true) c.requires)

pub returns-else-not-restricted : goal.returns-else-not-restricted
returns-else-not-restricted c = λ e. walked-tidied _ _ _ c.arities_of.ensures (subst (IsTidiedIs _ _) e c.is_tidied.ensures)
