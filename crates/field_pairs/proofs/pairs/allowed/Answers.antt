use Rattle.field_pairs.proofs.PairLaws.{allowed_trivial, allowed-permitted}
use Rattle.field_pairs.proofs.pairs.allowed.Goals as goal

pub returns-then-differ : goal.returns-then-differ
returns-then-differ c = allowed_trivial _ _ _ _ _ c.if-differ.true c.is_trivial.ensures

pub returns-else-differ : goal.returns-else-differ
returns-else-differ c = allowed-permitted _ _ _ _ _ c.if-differ.false c.permitted.ensures
