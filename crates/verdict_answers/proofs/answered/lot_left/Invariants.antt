use Rattle.verdict_answers.proofs.LotLaws.{LotSwept}
use Rattle.verdict_answers.proofs.answered.lot_left.Given as goal

abbrev pub invariant-names : goal.invariant-names
invariant-names l =
    LotSwept l.arities l.capacity l.work l.count l.free l.apart l.second l.area l.at l.others l.place l.from l.to l.initial.relied l.relied l.name
