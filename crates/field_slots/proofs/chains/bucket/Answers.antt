use native.Mathlib.Omega.{arith}
use Rattle.field_slots.proofs.ChainLaws.{bucket_is}
use Rattle.field_slots.proofs.chains.bucket.Goals as goal

pub returns : goal.returns
returns c = bucket_is _ _ (omega arith) _ c.spread.ensures
