use Prim.Native.Nat.{◌-◌, ◌≤◌}
use Rattle.steps_entries.proofs.EntryOrder.{Behind, Ahead}
use Rattle.steps_entries.specs.Entries.{entry_from}
use Rattle.steps_entries.proofs.listed.place.Given as goal

abbrev pub invariant-loop-low : goal.invariant-loop-low
invariant-loop-low l =
    (l.low ≤ l.high) × (l.high ≤ l.count) × Behind l.list l.count (entry_from l.entry 0) l.low × Ahead l.list l.count (entry_from l.entry 0) l.high

abbrev pub decreases-loop-low : goal.decreases-loop-low
decreases-loop-low l = l.high - l.low
