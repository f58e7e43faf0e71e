use mathlib.Core.Path.{◌≡◌}
use Prim.Native.Nat.{◌≤◌}
use Rattle.terms.specs.Limits.{name_count}
use lib.ListN.{length}
use Rattle.field_pairs.specs.PairFlags.{pair_count}
use Rattle.field_slots.proofs.UpdateLaws.{Row}
use Rattle.field_distinctions.proofs.update.mark_row.Given as goal

abbrev pub invariant-loop-n : goal.invariant-loop-n
invariant-loop-n l = (l.n ≤ name_count) × (length l.flags ≡ pair_count) × Row l.initial.flags l.free l.x l.flags l.n
