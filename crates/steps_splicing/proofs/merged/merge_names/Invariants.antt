use mathlib.Core.Path.{◌≡◌}
use Prim.Native.Nat.{◌-◌, ◌<◌, ◌≤◌}
use lib.ListN.{length}
use Rattle.steps_splicing.proofs.MergingLaws.{Merging}
use Rattle.steps_splicing.proofs.merged.merge_names.Given as goal

abbrev pub invariant-loop-at : goal.invariant-loop-at
invariant-loop-at l = (length l.bytes ≡ length l.initial.bytes) × (l.n ≤ length l.initial.bytes) × (l.names < 512) × Merging l.initial.bytes l.n l.arities l.class l.bytes l.at l.names

abbrev pub decreases-loop-at : goal.decreases-loop-at
decreases-loop-at l = l.n - l.at
