use Rattle.steps_partitions.proofs.RankLaws.{Unranked, unrank_start, unrank_more, unrank_all}
use Rattle.steps_partitions.proofs.PartitionLaws.{some_way}
use Prim.Native.Nat.{◌<◌, ◌+◌, ◌-◌, ◌*◌}
use mathlib.Core.Path.{sym, subst, ◌∙◌}
use lib.ListN.{set, length-set}
use native.Mathlib.Omega.{arith}
use borrow.Author.Rules.{rules}
use Rattle.steps_partitions.proofs.partition.unrank.Goals as goal

pub loop-i-init : goal.loop-i-init
loop-i-init c = (search rules, search rules, search rules, search rules, unrank_start _ _ _)

pub ways-size-requires : goal.ways-size-requires
ways-size-requires c = omega arith

pub class_in-c-requires : goal.class_in-c-requires
class_in-c-requires c =
    subst (λ k. 0 < k) (sym c.ways-size.ensures) (some_way (c.args.count - 1 - c.loop-i.i) c.loop-i.m)

pub overflow_cast-classes : goal.overflow_cast-classes
overflow_cast-classes c = omega (arith, c.class_in-c.ensures.few)

pub overflow_mul-left : goal.overflow_mul-left
overflow_mul-left c = omega (arith, c.class_in-c.ensures.below, c.ranges)

pub overflow_sub-left : goal.overflow_sub-left
overflow_sub-left c = omega (arith, c.class_in-c.ensures.below)

pub loop-i-preserved : goal.loop-i-preserved
loop-i-preserved c =
    let v = c.args in (
      search rules,
      omega (arith, c.class_in-c.ensures.few, c.max-m.ensures),
      omega arith,
      length-set
          c.loop-i.classes _ _ ∙ c.loop-i.invariant.3,
      subst (λ k. Unranked v.row v.count
          (c.loop-i.i + 1) k (c.loop-i.left - c.class_in-c.result *
          c.ways-size.result) (set c.loop-i.classes c.loop-i.i
          c.class_in-c.result)) (sym c.max-m.ensures) (unrank_more v.row v.count c.loop-i.i
          c.loop-i.m c.loop-i.left c.loop-i.classes
          c.ways-size.result c.class_in-c.result c.loop-i-test.true (omega arith)
          c.ways-size.ensures c.class_in-c.ensures c.loop-i.invariant.4),
    )

pub returns : goal.returns
returns c =
    unrank_all c.args.row c.args.count c.loop-i.i c.loop-i.m c.loop-i.left c.loop-i.classes c.loop-i-test.false
    c.loop-i.invariant.4
