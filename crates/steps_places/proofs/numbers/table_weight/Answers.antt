use Rattle.steps_places.proofs.NumberLaws.{table_start, table_more}
use Rattle.steps_places.specs.PlaceNumbers.{TableWeightIs}
use mathlib.Core.Path.{◌≡◌, subst}
use native.Mathlib.Omega.{arith}
use borrow.Author.Rules.{rules}
use Rattle.steps_places.proofs.numbers.table_weight.Goals as goal

pub loop-r-init : goal.loop-r-init
loop-r-init c = (search rules, table_start _ _)

pub overflow_add-sum : goal.overflow_add-sum
overflow_add-sum c =
    omega (arith, c.row_weight-sum.ensures.few, c.loop-r.invariant.1.few, c.requires.0)

pub loop-r-preserved : goal.loop-r-preserved
loop-r-preserved c = (
  search rules,
  table_more c.args.found.now
      c.args.weights.now c.loop-r.r
      c.loop-r.sum c.row_weight-sum.result c.row_weight-sum.ensures c.loop-r.invariant.1,
)

pub returns : goal.returns
returns c =
    let v = c.args in
    let e : c.loop-r.r ≡ v.rows = omega (arith, c.loop-r.invariant.0, c.loop-r-test.false) in
    subst (λ k. TableWeightIs v.found.now v.weights.now k c.loop-r.sum) e c.loop-r.invariant.1
