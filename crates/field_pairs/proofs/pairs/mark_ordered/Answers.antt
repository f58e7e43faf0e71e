use native.Mathlib.Omega.{arith}
use Rattle.field_pairs.proofs.PairLaws.{adds_nothing, adds_number}
use borrow.Author.Rules.{rules}
use Rattle.field_pairs.proofs.pairs.mark_ordered.Goals as goal

pub returns-then-a-b : goal.returns-then-a-b
returns-then-a-b c = adds_nothing _ _ _ (λ h. omega arith) (search rules)

pub returns-then-b-ge-NAME_COUNT : goal.returns-then-b-ge-NAME_COUNT
returns-then-b-ge-NAME_COUNT c = adds_nothing _ _ _ (λ h. omega arith) (search rules)

pub returns : goal.returns
returns c = adds_number _ _ _ _ c.number-k.ensures
