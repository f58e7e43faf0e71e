use native.Mathlib.Omega.{arith}
use Rattle.steps_tallies.proofs.TallyLoops.{placed-tallied, placed-more, placed_large}
use Rattle.steps_tallies.proofs.tally.put_place.Goals as goal

pub overflow_cast-bodies : goal.overflow_cast-bodies
overflow_cast-bodies c = omega (arith, c.if-place-lt-SMALL_PLACE.true)

pub bounds-bodies-k : goal.bounds-bodies-k
bounds-bodies-k c = omega (arith, c.requires.0, c.requires.1.size)

pub returns-then-place-lt-SMALL_PLACE : goal.returns-then-place-lt-SMALL_PLACE
returns-then-place-lt-SMALL_PLACE c =
    (placed-tallied _ _ _ c.requires.0 c.requires.1 c.requires.2 _, placed-more _ _ _ c.requires.0 c.requires.1 c.requires.2 _ c.requires.3)

pub returns-else-place-lt-SMALL_PLACE : goal.returns-else-place-lt-SMALL_PLACE
returns-else-place-lt-SMALL_PLACE c =
    (c.requires.1, placed_large _ _ _ c.requires.0 c.requires.1 c.requires.2 _ c.requires.3 (omega (arith, c.if-place-lt-SMALL_PLACE.false)))
