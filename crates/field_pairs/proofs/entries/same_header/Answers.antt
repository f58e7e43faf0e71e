use native.Mathlib.Omega.{arith}
use Rattle.field_pairs.specs.Entry.{SameHeaderIs}
use Rattle.field_pairs.proofs.EntryLaws.{same_header}
use Rattle.field_pairs.proofs.entries.same_header.Goals as goal

pub returns : goal.returns
unfolding SameHeaderIs
returns c = λ q. same_header _ _ _ _ _ (omega arith) (c.alike.ensures.0 q)
