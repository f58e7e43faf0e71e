use Rattle.steps_lister.proofs.TidiedListing.{restricted, not_restricted}
use Rattle.steps_lister.proofs.list.any_restriction.Goals as goal

-- src/list.rt:43:9
pub returns-then-bodies_restricted : goal.returns-then-bodies_restricted
returns-then-bodies_restricted c = rw c.if-bodies_restricted.true (restricted _ _)

-- src/list.rt:38:1
pub returns-else-bodies_restricted : goal.returns-else-bodies_restricted
returns-else-bodies_restricted c = not_restricted _ _ _ c.arities_of.ensures (c.requires.plain (c.bodies_restricted.ensures c.if-bodies_restricted.false)) _ c.has_restriction.ensures
