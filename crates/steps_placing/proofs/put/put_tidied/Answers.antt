use lib.ListN.{replicate}
use mathlib.Core.Path.{refl}
use Rattle.terms_tidying.specs.Tidying.{longest_raw}
use Rattle.steps_splicing.specs.Collecting.{counted}
use Rattle.steps_placing.proofs.PutLaws.{classed_tidied}
use Rattle.steps_placing.proofs.put.put_tidied.Goals as goal

-- src/put.rt:85:1
pub returns-clause-is : goal.returns-clause-is
returns-clause-is c =
    let a = c.args in
    classed_tidied a.question.now a.part.now c.requires.0.1.2.tidied a.step.candidate.silently a.step.candidate.number
    a.class.now a.step.action a.step.candidate.x a.area.now a.count (counted c.put_result.result) _ (replicate longest_raw 0) _
    c.write_tidied-n.result refl c.write_tidied-n.ensures c.put_result.ensures.is
