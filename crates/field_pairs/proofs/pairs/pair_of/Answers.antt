use native.Mathlib.Omega.{arith}
use Rattle.terms.specs.Limits.{name_count}
use Rattle.field_pairs.proofs.PairNumbering.{row_first, row_on}
use Rattle.field_pairs.proofs.NamePairs.{counted, pair_right}
use borrow.Author.Rules.{rules}
use Rattle.field_pairs.proofs.pairs.pair_of.Goals as goal

pub loop-a-init : goal.loop-a-init
loop-a-init c = row_first name_count _ (counted _ (search rules))

pub overflow_sub-a : goal.overflow_sub-a
overflow_sub-a c = omega (arith, c.loop-a.invariant.inside)

pub overflow_sub-left : goal.overflow_sub-left
overflow_sub-left c = omega (arith, c.loop-a.invariant.inside)

pub overflow_sub-left-in-loop-a : goal.overflow_sub-left-in-loop-a
overflow_sub-left-in-loop-a c = omega (arith, c.loop-a-test.true)

pub overflow_add-a : goal.overflow_add-a
overflow_add-a c = omega (arith, c.loop-a.invariant.inside)

pub loop-a-smaller : goal.loop-a-smaller
loop-a-smaller c = omega (arith, c.loop-a.invariant.inside, c.loop-a-test.true)

pub loop-a-preserved : goal.loop-a-preserved
loop-a-preserved c =
    row_on name_count _ (counted _ c.requires) _ _ c.loop-a.invariant (omega (arith, c.loop-a-test.true))

pub overflow_add-result : goal.overflow_add-result
overflow_add-result c = omega (arith, c.loop-a.invariant.inside)

pub overflow_add-result-2 : goal.overflow_add-result-2
overflow_add-result-2 c = omega (arith, c.loop-a.invariant.inside, c.loop-a-test.false)

pub returns : goal.returns
returns c = pair_right _ c.requires _ _ c.loop-a.invariant (omega (arith, c.loop-a-test.false))
