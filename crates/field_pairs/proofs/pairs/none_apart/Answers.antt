use native.Mathlib.Omega.{arith}
use borrow.Author.Rules.{rules}
use Rattle.field_pairs.proofs.Counting.{passing-start, passing_failed, passing_next}
use Rattle.field_pairs.proofs.PairLaws.{none_apart_is, may_be_apart}
use Rattle.field_pairs.proofs.pairs.none_apart.Goals as goal

pub returns-then-flags-lt-PAIR_COUNT : goal.returns-then-flags-lt-PAIR_COUNT
returns-then-flags-lt-PAIR_COUNT c = may_be_apart _

pub loop-k-init : goal.loop-k-init
loop-k-init c = (search rules, passing-start _ _)

pub loop-k-preserved : goal.loop-k-preserved
loop-k-preserved c = (
  search rules,
  elim c.if-flags-k-ne0.branch [
    | goal.then-flags-k-ne0 w ↦ rw w.none-is (passing_failed _ _)
    | goal.else-flags-k-ne0 w ↦ rw w.none-is (passing_next _ _ _ c.loop-k.invariant.1 w.if-flags-k-ne0.false)
  ],
)

pub returns : goal.returns
returns c = none_apart_is _ c.loop-k.k _ (omega arith) c.loop-k.invariant.1
