use native.Mathlib.Omega.{arith}
use Rattle.steps_placing.proofs.TakeLaws.{result-written, result_past}
use Rattle.steps_placing.proofs.result.write_result.Goals as goal

pub returns-else-out-end-clause-is : goal.returns-else-out-end-clause-is
returns-else-out-end-clause-is c =
    let a = c.args in
    result-written a.question.now a.part.now a.candidate.silently a.candidate.number a.class.now a.candidate.x
    c.result_names-names.result c.result_names-names.ensures a.out.now c.write-end.result _ c.write-end.ensures.0

pub returns-then-out-end-clause-is : goal.returns-then-out-end-clause-is
returns-then-out-end-clause-is c =
    let a = c.args in
    let l = c.write-end.auto.out in
    result_past a.question.now a.part.now a.candidate.silently a.candidate.number a.class.now a.candidate.x a.out.now c.write-end.result _
    (omega (arith, c.if-out-end.true)) (result-written a.question.now a.part.now a.candidate.silently a.candidate.number a.class.now a.candidate.x
    c.result_names-names.result c.result_names-names.ensures a.out.now c.write-end.result _ c.write-end.ensures.0)
