use mathlib.Core.Path.{◌≡◌}
use Prim.Native.Nat.{◌≤◌}
use lib.ListN.{length}
use Rattle.field_pairs.specs.Slot.{octets}
use Rattle.field_slots.specs.Update.{kept_flags}
use Rattle.field_slots.proofs.KeyLaws.{Packing}
use Rattle.field_slots.proofs.slots.pack.Given as goal

abbrev pub invariant-loop-k : goal.invariant-loop-k
invariant-loop-k l = (l.k ≤ octets) × (length l.out ≡ length l.initial.out) × Packing (kept_flags l.flags l.free) l.initial.out l.put l.out l.k
