use mathlib.Core.Path.{◌≡◌}
use Prim.Native.Nat.{ℕ, ◌<◌, ◌≤◌}
use lib.ListN.{get_or}
use Rattle.field_pairs.specs.Slot.{struck_at}
use Rattle.verdict_start.proofs.passes.first_struck.Given as goal

abbrev pub invariant-loop-i : goal.invariant-loop-i
invariant-loop-i l =
    (l.i ≤ l.count) × ((k : ℕ) → k < l.i → get_or l.work (struck_at k) 0 ≡ 0)
