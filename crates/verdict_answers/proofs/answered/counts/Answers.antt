use Rattle.verdict_answers.proofs.LotLaws.{counts_none, counts_received}
use native.Mathlib.Omega.{arith}
use Rattle.verdict_answers.proofs.answered.counts.Goals as goal

pub returns-then-name-eq-NAME_COUNT : goal.returns-then-name-eq-NAME_COUNT
returns-then-name-eq-NAME_COUNT c = counts_none _ _ _ _ (omega arith)

pub returns : goal.returns
returns c = counts_received _ _ _ _ _ (omega arith) c.is_received.ensures
