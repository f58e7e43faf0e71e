use mathlib.Core.Path.{◌≡◌}
use Prim.Native.Nat.{◌-◌, ◌≤◌}
use Rattle.terms.specs.Question.{every, fits}
use Rattle.terms_checks.specs.Checking.{fields_from}
use Rattle.terms_checks.proofs.check.bodies_fit.Given as goal

abbrev pub invariant-loop-i : goal.invariant-loop-i
invariant-loop-i l = (l.i ≤ l.count) × (every fits (fields_from l.question l.from l.count) ≡ every fits (fields_from l.question l.at (l.count - l.i)))
