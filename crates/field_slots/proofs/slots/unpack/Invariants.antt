use Rattle.field_slots.proofs.KeyLaws.{bit_from}
use Rattle.terms_renaming.proofs.Filling.{Filling}
use Rattle.field_pairs.specs.Slot.{octets}
use Rattle.field_pairs.specs.PairFlags.{pair_count}
use lib.ListN.{length}
use Prim.Native.Nat.{◌*◌, ◌≤◌}
use mathlib.Core.Path.{◌≡◌}
use Rattle.field_slots.proofs.slots.unpack.Given as goal

abbrev pub invariant-loop-k : goal.invariant-loop-k
invariant-loop-k l = (l.k ≤ octets) × (length l.initial.flags ≡ pair_count) × Filling (bit_from l.area l.at) l.initial.flags l.flags (8 * l.k)
