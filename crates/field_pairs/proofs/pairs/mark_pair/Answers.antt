use Rattle.field_pairs.proofs.PairLaws.{adds_swapped}
use Rattle.field_pairs.proofs.pairs.mark_pair.Goals as goal

pub returns-then-b-a : goal.returns-then-b-a
returns-then-b-a c = adds_swapped _ _ _ _ c.mark_ordered.ensures
