use mathlib.Core.Path.{◌≡◌}
use Prim.Native.Nat.{◌≤◌}
use lib.ListN.{length}
use Rattle.steps.specs.Limits.{most_steps}
use Rattle.steps_walk.proofs.ComponentLaws.{SilentGo}
use Rattle.steps_walk.proofs.walk.take_unconditional.Given as goal

abbrev pub invariant-loop-j : goal.invariant-loop-j
invariant-loop-j l =
    (l.n ≤ most_steps) × (length l.area ≡ length l.initial.area) × SilentGo l.question l.part l.node.at l.node.depth l.node.number l.node.x l.initial.area l.count l.j l.n l.area
