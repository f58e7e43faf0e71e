use mathlib.Core.Path.{◌≡◌}
use Prim.Native.Nat.{◌≤◌}
use lib.ListN.{length}
use Rattle.calculus.specs.Cond.{Pairs}
use Rattle.terms.specs.Operations.{holds_apart}
use Rattle.terms.specs.Question.{pair_bytes}
use Rattle.terms_renaming.proofs.Filling.{Filling}
use Rattle.field_pairs.specs.PairFlags.{pair_count}
use Rattle.field_pairs.specs.Slot.{flag}
use Rattle.field_pairs.specs.PairNumbers.{pair_at}
use Rattle.terms.specs.Limits.{name_count}
use Rattle.fewest_lists.proofs.lists.apart_flags.Given as goal

abbrev pub invariant-loop-k : goal.invariant-loop-k
invariant-loop-k l = (l.k ≤ pair_count) × (length l.flags ≡ pair_count) × ((D : Pairs) → l.list ≡ pair_bytes D → Filling (λ m. flag (holds_apart D (pair_at name_count m).0 (pair_at name_count m).1)) l.initial.flags l.flags l.k)
