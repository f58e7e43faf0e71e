use Rattle.steps_partitions.proofs.RankLaws.{class_weight_is}
use mathlib.Core.Path.{refl}
use native.Mathlib.Omega.{arith}
use Rattle.steps_partitions.proofs.partition.class_weight.Goals as goal

pub overflow_mul-result : goal.overflow_mul-result
overflow_mul-result c =
    let v = c.args in
    let p = class_weight_is v.class v.rest v.classes c.ways.result _ (omega (arith, c.ranges)) c.requires c.ways.ensures refl in
    record { fits = omega (arith, p.few) }

pub returns : goal.returns
returns c =
    let v = c.args in
    class_weight_is v.class v.rest v.classes c.ways.result _ (omega (arith, c.ranges)) c.requires c.ways.ensures refl
