use Rattle.steps_places.proofs.NumberLaws.{row-start, row_more}
use Rattle.steps_places.specs.PlaceNumbers.{RowWeightIs}
use Rattle.steps_reach.specs.CallTable.{most_calls}
use mathlib.Core.Path.{◌≡◌, subst}
use native.Mathlib.Omega.{arith}
use borrow.Author.Rules.{rules}
use Rattle.steps_places.proofs.numbers.row_weight.Goals as goal

pub loop-j-init : goal.loop-j-init
loop-j-init c = (search rules, row-start _ _)

pub overflow_add-sum : goal.overflow_add-sum
overflow_add-sum c = omega (arith, c.weight_in-sum.ensures.few, c.loop-j.invariant.1.few)

pub loop-j-preserved : goal.loop-j-preserved
loop-j-preserved c = (
  search rules,
  row_more c.args.set c.args.weights.now
      c.loop-j.j c.loop-j.sum c.weight_in-sum.result c.weight_in-sum.ensures c.loop-j.invariant.1,
)

pub returns : goal.returns
returns c =
    let e : c.loop-j.j ≡ most_calls = omega (arith, c.loop-j.invariant.0, c.loop-j-test.false) in
    subst (λ k. RowWeightIs c.args.set c.args.weights.now k c.loop-j.sum) e c.loop-j.invariant.1
