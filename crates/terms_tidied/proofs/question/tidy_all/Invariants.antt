use mathlib.Core.Path.{◌≡◌}
use Prim.Native.Nat.{◌-◌, ◌≤◌}
use lib.ListN.{length}
use Rattle.terms_tidied.proofs.TidiedQuestion.{Writing}
use Rattle.terms_tidied.proofs.question.tidy_all.Given as goal

abbrev pub invariant-loop-k : goal.invariant-loop-k
invariant-loop-k l = (length l.out ≡ length l.initial.out) × (l.k ≤ l.last) × Writing l.question l.initial.out l.k l.at l.put l.out
