use mathlib.Core.Path.{◌≡◌}
use Prim.Native.Nat.{◌≤◌}
use lib.ListN.{length}
use Rattle.steps_tallies.specs.Tally.{tally_size}
use Rattle.steps_tallies.specs.Tallying.{Filled}
use Rattle.steps_tallies.proofs.tally.fill.Given as goal

abbrev pub invariant-loop-at : goal.invariant-loop-at
invariant-loop-at l = (l.at ≤ length l.src) × (length l.tally ≡ tally_size) × Filled l.src l.arities l.bodies l.at l.tally
