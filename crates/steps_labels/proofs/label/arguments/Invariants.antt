use mathlib.Core.Path.{◌≡◌}
use Prim.Native.Nat.{◌+◌, ◌-◌, ◌≤◌}
use lib.ListN.{length, get_or}
use Rattle.terms_renaming.proofs.Filling.{Filling}
use Rattle.terms.specs.Limits.{greatest_arity}
use Rattle.steps_labels.specs.LabelWalk.{slot_at}
use Rattle.steps_labels.proofs.label.arguments.Given as goal

abbrev pub invariant-loop-j : goal.invariant-loop-j
invariant-loop-j l = Filling (λ k. slot_at l.args l.inner l.depth (get_or l.src (l.at + (l.count - 1 - k)) 0)) l.initial.slots l.slots l.j × (l.j ≤ l.count) × (length l.initial.slots ≡ greatest_arity)
