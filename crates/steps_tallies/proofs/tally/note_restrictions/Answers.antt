use native.Mathlib.Omega.{arith}
use Rattle.steps_tallies.proofs.RestrictedBodies.{unrestricted_tallied, restricted-tallied}
use Rattle.steps_tallies.proofs.tally.note_restrictions.Goals as goal

-- src/tally.rt:278:9
pub bounds-bodies-5392 : goal.bounds-bodies-5392
bounds-bodies-5392 c = omega (arith, c.requires.0.size)

-- src/tally.rt:273:1
pub returns-then-has_restricted_body : goal.returns-then-has_restricted_body
returns-then-has_restricted_body c = restricted-tallied _ _ c.requires.0 c.requires.1 c.requires.2

-- src/tally.rt:273:1
pub returns-else-has_restricted_body : goal.returns-else-has_restricted_body
returns-else-has_restricted_body c = unrestricted_tallied _ _ c.requires.0 c.requires.1 c.requires.2 (c.has_restricted_body.ensures c.if-has_restricted_body.false)
