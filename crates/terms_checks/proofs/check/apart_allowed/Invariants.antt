use mathlib.Core.Path.{◌≡◌}
use Prim.Native.Nat.{◌≤◌, ◌-◌}
use lib.ListN.{length, drop}
use Rattle.terms.specs.Limits.{longest_apart}
use Rattle.terms.specs.Question.{read_pairs, read_apart}
use Rattle.terms_checks.specs.Checking.{zero_for}
use Rattle.terms_checks.proofs.check.apart_allowed.Given as goal

abbrev pub invariant-loop-i : goal.invariant-loop-i
invariant-loop-i l = (length l.list ≤ longest_apart) × (zero_for (read_apart l.list) ≡ zero_for (read_pairs (drop l.i l.list)))

abbrev pub decreases-loop-i : goal.decreases-loop-i
decreases-loop-i l = length l.list - l.i
