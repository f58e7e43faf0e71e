use Rattle.verdict_answers.proofs.RunLaws.{open_run, late_run, answered-openly, answered_late, answered_early}
use native.Mathlib.Omega.{arith}
use Rattle.verdict_answers.proofs.answered.side_answered.Goals as goal

pub run_answered-requires : goal.run_answered-requires
run_answered-requires c =
    (c.requires.0, (omega arith, omega arith, open_run), c.requires.1)

pub run_answered-requires-in-Late : goal.run_answered-requires-in-Late
run_answered-requires-in-Late c =
    (c.requires.0, (omega arith, omega arith, late_run), c.requires.1)

pub returns-in-Open : goal.returns-in-Open
returns-in-Open c = answered-openly _ _ _ _ _ _ _ _ _ _ _ _ _ _ c.in-Open.is c.run_answered.ensures

pub returns-in-Late : goal.returns-in-Late
returns-in-Late c = answered_late _ _ _ _ _ _ _ _ _ _ _ _ _ _ c.in-Late.is c.run_answered-in-Late.ensures

pub returns-in-Early : goal.returns-in-Early
returns-in-Early c = answered_early _ _ _ _ _ _ _ _ _ _ _ _ _ _ c.in-Early.is c.side_early.ensures
