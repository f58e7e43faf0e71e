use Rattle.field_slots.specs.Chains.{rounds}
use Prim.Native.Nat.{◌<◌, ◌≤◌}
use mathlib.Core.Path.{◌≡◌}
use Rattle.field_slots.proofs.chains.mix_rounds.Given as goal

abbrev pub invariant-loop-i : goal.invariant-loop-i
invariant-loop-i l = (l.i ≤ l.count) × (l.x < 25769803776) × (l.x ≡ rounds l.h l.key l.from l.i)
