use mathlib.Core.Path.{◌≡◌}
use Prim.Native.Nat.{◌≤◌}
use lib.ListN.{length}
use Rattle.field_pairs.specs.PairFlags.{pair_count}
use Rattle.field_slots.proofs.UpdateLaws.{Rewritten}
use Rattle.field_distinctions.proofs.update.rewrite.Given as goal

abbrev pub invariant-loop-k : goal.invariant-loop-k
invariant-loop-k l = (l.k ≤ pair_count) × (length l.new ≡ pair_count) × Rewritten l.flags l.area l.at l.initial.new l.new l.k
