use Rattle.steps_partitions.proofs.RankLaws.{merge_none, merge_more}
use Rattle.steps_partitions.specs.Partition.{merged_class, MergeIs}
use mathlib.Core.Path.{◌≡◌, ap, subst, ◌∙◌}
use lib.ListN.{length-set}
use native.Mathlib.Omega.{arith}
use borrow.Author.Rules.{rules}
use Rattle.steps_partitions.proofs.partition.merge.Goals as goal

pub loop-i-init : goal.loop-i-init
loop-i-init c = (search rules, search rules, merge_none _ _ _ _)

pub loop-i-preserved : goal.loop-i-preserved
loop-i-preserved c =
    let v = c.args in (
      search rules,
      length-set c.loop-i.merged _ _ ∙ c.loop-i.invariant.1,
      merge_more v.classes.now
          v.a v.b c.loop-i.i c.loop-i.merged _ (omega arith) (c.merged_class.ensures ∙ ap
          (merged_class v.a v.b) c.get.ensures) c.loop-i.invariant.2,
    )

pub returns : goal.returns
returns c =
    let v = c.args in
    let e : c.loop-i.i ≡ v.count = omega (arith, c.loop-i.invariant.0, c.loop-i-test.false) in
    subst (λ k. MergeIs v.classes.now k v.a v.b c.loop-i.merged) e c.loop-i.invariant.2
