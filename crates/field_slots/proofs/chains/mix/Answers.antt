use native.Mathlib.Omega.{arith}
use Rattle.field_slots.proofs.ChainLaws.{mixed_is}
use Rattle.field_slots.proofs.chains.mix.Goals as goal

pub overflow_mul-x-2 : goal.overflow_mul-x-2
overflow_mul-x-2 c = omega (arith, c.word.ensures.below)

pub overflow_add-x : goal.overflow_add-x
overflow_add-x c = omega (arith, c.word.ensures.below)

pub overflow_mul-x-3 : goal.overflow_mul-x-3
overflow_mul-x-3 c = omega (arith, c.word.ensures.below, c.word-2.ensures.below)

pub overflow_add-x-2 : goal.overflow_add-x-2
overflow_add-x-2 c = omega (arith, c.word.ensures.below, c.word-2.ensures.below)

pub overflow_mul-x-4 : goal.overflow_mul-x-4
overflow_mul-x-4 c = omega (arith, c.word.ensures.below, c.word-2.ensures.below, c.word-3.ensures.below)

pub overflow_add-x-3 : goal.overflow_add-x-3
overflow_add-x-3 c = omega (arith, c.word.ensures.below, c.word-2.ensures.below, c.word-3.ensures.below)

pub overflow_mul-x-5 : goal.overflow_mul-x-5
overflow_mul-x-5 c =
    omega (arith, c.word.ensures.below, c.word-2.ensures.below, c.word-3.ensures.below, c.word-4.ensures.below)

pub overflow_add-x-4 : goal.overflow_add-x-4
overflow_add-x-4 c =
    omega (arith, c.word.ensures.below, c.word-2.ensures.below, c.word-3.ensures.below, c.word-4.ensures.below)

pub overflow_mul-result : goal.overflow_mul-result
overflow_mul-result c =
    omega (arith, c.word.ensures.below, c.word-2.ensures.below, c.word-3.ensures.below, c.word-4.ensures.below)

pub overflow_add-result : goal.overflow_add-result
overflow_add-result c =
    omega (arith, c.word.ensures.below, c.word-2.ensures.below, c.word-3.ensures.below, c.word-4.ensures.below)

pub returns : goal.returns
returns c =
    record {
      is = mixed_is _ _ _ _ _ _ _ c.word.ensures.is c.word-2.ensures.is c.word-3.ensures.is c.word-4.ensures.is;
      below =
          omega (arith, c.word.ensures.below, c.word-2.ensures.below, c.word-3.ensures.below, c.word-4.ensures.below);
    }
