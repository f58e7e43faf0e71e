use native.Mathlib.Omega.{arith}
use Rattle.small_parts_count.proofs.TallyLaws.{add_refused, add_unsettled, add_same, add_different}
use Rattle.small_parts_count.proofs.tally.add.Goals as goal

pub plus-requires : goal.plus-requires
plus-requires c = record { small = c.requires.small; one = omega arith }

pub plus-requires-in-Same : goal.plus-requires-in-Same
plus-requires-in-Same c = record { small = c.requires.small; one = omega arith }

pub plus-requires-in-Different : goal.plus-requires-in-Different
plus-requires-in-Different c = record { small = c.requires.small; one = omega arith }

pub returns-in_default : goal.returns-in_default
returns-in_default c = add_refused c.args.tally c.args.judged _ c.in_default.is

pub returns-in-Unsettled : goal.returns-in-Unsettled
returns-in-Unsettled c =
    let a = c.args in
    add_unsettled a.tally a.judged _ c.in-Ok.is c.plus.result c.plus.ensures c.in-Unsettled.is

pub returns-in-Same : goal.returns-in-Same
returns-in-Same c =
    let a = c.args in
    add_same a.tally a.judged _ c.in-Ok.is c.plus-in-Same.result _ c.plus-in-Same.ensures c.in-Same.is

pub returns-in-Different : goal.returns-in-Different
returns-in-Different c =
    let a = c.args in
    add_different a.tally a.judged _ c.in-Ok.is c.plus-in-Different.result _ c.plus-in-Different.ensures c.in-Different.is
