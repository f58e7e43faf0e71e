use native.Mathlib.Omega.{arith}
use Rattle.field_slots.proofs.ChainLaws.{link_is}
use Rattle.field_slots.proofs.chains.link.Goals as goal

pub returns : goal.returns
returns c =
    link_is _ _ c.args.i c.bucket.result c.size_at-last.result _ _ (omega arith) (omega arith) (omega arith) c.bucket.ensures
    c.size_at-last.ensures.0 c.put_number.ensures c.put_number-2.ensures
