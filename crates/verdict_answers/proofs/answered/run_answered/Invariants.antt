use mathlib.Core.Path.{◌≡◌}
use Prim.Native.Nat.{ℕ, ◌<◌}
use Rattle.verdict_answers.proofs.SideLaws.{ReplyFails, SideSwept}
use Rattle.verdict_answers.proofs.answered.run_answered.Given as goal

abbrev pub invariant-loop-j : goal.invariant-loop-j
invariant-loop-j l =
    (l.relied ≡ l.initial.relied) × ((l' : ℕ) → l' < l.j → ReplyFails l.from l.to l.arities l.run.side.search.capacity l.work l.run.side.search.count l.free l.apart l.run.side.second l.area l.n l.others l.m l.i l')

abbrev pub invariant-steps : goal.invariant-steps
invariant-steps l =
    SideSwept l.from l.to l.arities l.run.side.search.capacity l.work l.run.side.search.count l.free l.apart l.run.side.second l.area l.n l.others l.m l.initial.relied l.relied l.i
