use Prim.Native.Nat.{◌-◌}
use Rattle.steps_tallies.specs.Tally.{EndsTallied}
use Rattle.steps_equal_branches.proofs.ChoiceLaws.{Ahead}
use Rattle.steps_rows.proofs.rows.is_repeated.Given as goal

abbrev pub invariant-loop-p : goal.invariant-loop-p
invariant-loop-p l = EndsTallied l.question l.src l.tally → Ahead l.question l.src l.tally l.args l.inner l.depth l.root l.at l.p

abbrev pub decreases-loop-p : goal.decreases-loop-p
decreases-loop-p l = l.at - l.p
