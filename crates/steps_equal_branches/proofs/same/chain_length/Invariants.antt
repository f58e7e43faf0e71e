use mathlib.Core.Path.{◌≡◌}
use Prim.Native.Nat.{ℕ, ◌+◌, ◌-◌, ◌*◌, ◌<◌, ◌≤◌, max}
use lib.ListN.{length, get_or}
use Rattle.steps_equal_branches.proofs.same.chain_length.Given as goal

abbrev pub invariant-loop-q : goal.invariant-loop-q
invariant-loop-q l = (l.q ≡ l.at + 3 * l.n) × (l.at + 3 * l.n ≤ max l.at (length l.src + 2)) × ((j : ℕ) → j < l.n → get_or l.src (l.at + 3 * j) 0 ≡ 5)

abbrev pub decreases-loop-q : goal.decreases-loop-q
decreases-loop-q l = length l.src + 3 - l.q
