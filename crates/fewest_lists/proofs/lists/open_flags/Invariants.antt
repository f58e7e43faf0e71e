use mathlib.Core.Path.{◌≡◌}
use Prim.Native.Nat.{◌≤◌}
use lib.ListN.{length}
use Rattle.calculus.specs.Cond.{Pairs}
use Rattle.terms_renaming.proofs.Filling.{Filling}
use Rattle.field_pairs.specs.PairFlags.{pair_count}
use Rattle.field_pairs.specs.Slot.{flag, flags_of}
use Rattle.fewest.specs.Choices.{may_choose}
use Rattle.field_pairs.specs.PairNumbers.{pair_at}
use Rattle.terms.specs.Limits.{name_count}
use Rattle.fewest_lists.proofs.lists.open_flags.Given as goal

abbrev pub invariant-loop-k : goal.invariant-loop-k
invariant-loop-k l = (l.k ≤ pair_count) × (length l.flags ≡ pair_count) × ((D : Pairs) → l.apart ≡ flags_of D → Filling (λ m. flag (may_choose l.names D (pair_at name_count m).0 (pair_at name_count m).1)) l.initial.flags l.flags l.k)
