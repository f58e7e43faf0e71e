use mathlib.Core.Bool.{false}
use Prim.Native.Nat.{ℕ, ◌<◌, ◌≤◌}
use Rattle.verdict_answers.specs.Striking.{CountsIs}
use Rattle.verdict_answers.proofs.answered.is_asked.Given as goal

abbrev pub invariant-loop-name : goal.invariant-loop-name
invariant-loop-name l =
    (l.from ≤ l.name) × ((y : ℕ) → y < l.name → l.from ≤ y → CountsIs l.free l.area l.at y false)
