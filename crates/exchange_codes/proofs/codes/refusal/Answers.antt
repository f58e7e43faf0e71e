use native.Mathlib.Omega.{arith}
use Rattle.verdict.specs.Outcome.{code_of, coded}
use Rattle.exchange_codes.proofs.codes.refusal.Goals as goal

-- src/lib.rt:9:1
pub returns : goal.returns
unfolding code_of coded
returns g c = omega arith
