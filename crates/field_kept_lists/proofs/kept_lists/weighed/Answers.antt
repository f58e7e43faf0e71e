use native.Mathlib.Omega.{arith}
use Rattle.field_kept_lists.proofs.kept_lists.weighed.Goals as goal

pub overflow_add-sum : goal.overflow_add-sum
overflow_add-sum c = omega (arith, c.word-sum.ensures.below)

pub overflow_add-sums : goal.overflow_add-sums
overflow_add-sums c = omega (arith, c.word-sum.ensures.below)

pub loop-k-preserved : goal.loop-k-preserved
loop-k-preserved c = omega (arith, c.word-sum.ensures.below)

pub overflow_mul-result : goal.overflow_mul-result
overflow_mul-result c = omega (arith, c.word.ensures.below)

pub overflow_add-result : goal.overflow_add-result
overflow_add-result c = omega (arith, c.word.ensures.below)

pub returns : goal.returns
returns c = omega (arith, c.word.ensures.below)
