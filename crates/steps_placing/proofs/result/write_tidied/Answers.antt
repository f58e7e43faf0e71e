use lib.ListN.{replicate}
use mathlib.Core.Path.{refl}
use Rattle.terms_tidying.specs.Tidying.{longest_raw}
use Rattle.steps_placing.specs.Taking.{ended_in}
use Rattle.steps_placing.proofs.TidiedResults.{tidied-written}
use Rattle.steps_placing.proofs.result.write_tidied.Goals as goal

pub returns : goal.returns
returns c =
    let v = c.args in
    tidied-written v.question.now v.part.now v.candidate.silently v.candidate.number v.class.now v.candidate.x
    (replicate longest_raw 0) _ v.out.now _ c.arities_of.result.now (ended_in (replicate longest_raw 0) c.write_result.result) c.tidy-e.result refl
    c.requires.2 c.write_result.ensures.is c.arities_of.ensures c.tidy-e.ensures
