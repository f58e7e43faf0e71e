use Rattle.verdict_answers.proofs.RunLaws.{EarlySwept}
use Rattle.verdict_answers.proofs.answered.side_early.Given as goal

abbrev pub invariant-loop-name : goal.invariant-loop-name
invariant-loop-name l =
    EarlySwept l.arities l.side.search.capacity l.work l.side.search.count l.free l.apart l.side.second l.area l.side.steps l.others l.side.replies l.initial.relied l.relied l.name
