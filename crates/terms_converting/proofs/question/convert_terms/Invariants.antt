use mathlib.Core.Path.{◌≡◌}
use Prim.Native.Nat.{◌-◌, ◌≤◌}
use lib.ListN.{length}
use Rattle.terms_converting.proofs.QuestionLaws.{Copying}
use Rattle.terms_converting.proofs.question.convert_terms.Given as goal

abbrev pub invariant-loop-k : goal.invariant-loop-k
invariant-loop-k l = (length l.out ≡ length l.initial.out) × (l.k ≤ l.last) × Copying l.question l.counted l.initial.out l.k l.at l.put l.out
