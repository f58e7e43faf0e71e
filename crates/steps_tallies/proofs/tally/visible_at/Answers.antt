use mathlib.Core.Path.{ap, ◌∙◌}
use Prim.Native.Nat.{ℕ}
use lib.ListN.{get_or}
use Rattle.steps_tallies.specs.Tally.{visible_at}
use native.Mathlib.Omega.{arith}
use Rattle.steps_tallies.proofs.tally.visible_at.Goals as goal

pub returns : goal.returns
unfolding visible_at
returns c = c.number.ensures ∙ ap (λ (i : ℕ). get_or c.args.tally.now i 0) (omega arith)
