use Rattle.steps_partitions.proofs.RankLaws.{Ranked, rank-start, rank-more, rank-all, rank-none}
use Prim.Native.Nat.{◌+◌}
use mathlib.Core.Path.{sym, subst}
use native.Mathlib.Omega.{arith}
use borrow.Author.Rules.{rules}
use Rattle.steps_partitions.proofs.partition.rank.Goals as goal

pub loop-i-init : goal.loop-i-init
loop-i-init c = (search rules, omega arith, rank-start _ _)

pub returns-then-i-m : goal.returns-then-i-m
returns-then-i-m c =
    rank-none c.args.classes.now c.args.count c.loop-i.i c.loop-i.m c.loop-i.number c.if-i-m.true c.loop-i.invariant.2

pub class_weight-number-requires : goal.class_weight-number-requires
class_weight-number-requires c = omega arith

pub overflow_add-number : goal.overflow_add-number
overflow_add-number c = omega (arith, c.class_weight-number.ensures.few)

pub loop-i-preserved : goal.loop-i-preserved
loop-i-preserved c =
    let v = c.args in (
      search rules,
      omega (arith, c.class_weight-number.ensures.few),
      subst (λ k. Ranked v.classes.now v.count
          (c.loop-i.i + 1) k (c.loop-i.number + c.class_weight-number.result))
          (sym c.max-m.ensures) (rank-more v.classes.now v.count c.loop-i.i
          c.loop-i.m c.loop-i.number c.get-c.result
          c.class_weight-number.result c.loop-i-test.true c.get-c.ensures c.class_weight-number.ensures.is
          c.loop-i.invariant.2),
    )

pub returns : goal.returns
returns c =
    rank-all c.args.classes.now c.args.count c.loop-i.i c.loop-i.m c.loop-i.number c.loop-i-test.false c.loop-i.invariant.0
    c.loop-i.invariant.2
