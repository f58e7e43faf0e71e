use Rattle.verdict_answers.proofs.RunLaws.{early_run, early_none, early_more, early_fails, early_all}
use native.Mathlib.Omega.{arith}
use Rattle.std.proofs.lemmas.Result.{err_from_is_err_and}
use Rattle.verdict_answers.proofs.answered.side_early.Goals as goal

pub loop-name-init : goal.loop-name-init
loop-name-init c = early_none _ _ _ _ _ _ _ _ _ _ _ _ c.requires.1

pub run_answered-requires : goal.run_answered-requires
run_answered-requires c =
    (c.requires.0, (omega arith, omega arith, early_run _), c.loop-name.invariant.numbers)

pub returns-in_err-relied : goal.returns-in_err-relied
returns-in_err-relied c =
    let e = err_from_is_err_and c.from_residual.result c.from_residual.ensures.1 in
    rw (e.1, e.2) (early_fails _ _ _ _ _ _ _ _ _ _ _ _ _ _ (omega arith) _ c.run_answered.ensures _ c.in_err-relied.was c.loop-name.invariant)

pub loop-name-preserved : goal.loop-name-preserved
loop-name-preserved c =
    early_more _ _ _ _ _ _ _ _ _ _ _ _ _ _ (omega arith) _ c.run_answered.ensures _ c.in_ok-relied.was c.loop-name.invariant

pub returns : goal.returns
returns c = early_all _ _ _ _ _ _ _ _ _ _ _ _ _ c.loop-name.name (omega arith) c.loop-name.invariant
