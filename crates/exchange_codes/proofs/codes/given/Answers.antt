use native.Mathlib.Omega.{arith}
use Rattle.verdict.specs.Outcome.{code_of, coded}
use Rattle.exchange_codes.proofs.codes.given.Goals as goal

pub returns : goal.returns
unfolding code_of coded
returns c = omega arith
