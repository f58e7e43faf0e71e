use native.Mathlib.Omega.{arith}
use borrow.Author.Rules.{rules}
use Rattle.verdict.specs.Outcome.{code_of, coded, Small}
use Rattle.exchange_codes.proofs.codes.different.Goals as goal

pub overflow_add-result : goal.overflow_add-result
unfolding Small
overflow_add-result c = search rules

pub returns : goal.returns
unfolding code_of coded
returns c = omega arith
