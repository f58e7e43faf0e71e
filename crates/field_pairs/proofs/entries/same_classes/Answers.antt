use native.Mathlib.Omega.{arith}
use Rattle.field_pairs.specs.Entry.{SameClassesIs}
use Rattle.field_pairs.proofs.EntryLaws.{same_classes}
use Rattle.field_pairs.proofs.entries.same_classes.Goals as goal

pub returns : goal.returns
unfolding SameClassesIs
returns c = λ q. same_classes _ _ _ _ _ (omega arith) (c.alike.ensures.0 q)
