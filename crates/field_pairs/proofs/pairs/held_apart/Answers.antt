use native.Mathlib.Omega.{arith}
use Rattle.field_pairs.proofs.PairLaws.{held_ordered, held_swapped, held_alone}
use Rattle.field_pairs.proofs.pairs.held_apart.Goals as goal

pub returns-then-a-b : goal.returns-then-a-b
returns-then-a-b c = held_ordered _ _ _ _ c.number.ensures c.if-a-b.true _ c.get.ensures

pub returns-then-b-a : goal.returns-then-b-a
returns-then-b-a c = held_swapped _ _ _ _ (held_ordered _ _ _ _ c.number-then-b-a.ensures c.if-b-a.true _ c.get-then-b-a.ensures)

pub returns : goal.returns
returns c = held_alone _ _ _ (omega arith)
