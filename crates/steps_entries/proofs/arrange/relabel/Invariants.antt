use Prim.Native.Nat.{◌≤◌}
use Rattle.terms_renaming.proofs.Filling.{Filling}
use Rattle.steps_entries.proofs.ArrangeLaws.{relabel_at}
use Rattle.steps_entries.proofs.arrange.relabel.Given as goal

abbrev pub invariant-loop-k : goal.invariant-loop-k
invariant-loop-k l =
    (l.from ≤ l.k) × (l.k ≤ l.end) × Filling (relabel_at l.initial.list l.from l.old l.new) l.initial.list l.list l.k
