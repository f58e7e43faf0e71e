use Rattle.fewest_search.proofs.SearchLaws.{next_unsettled, next_same, next_different, next_refused}
use Rattle.fewest_search.proofs.search.judge_next.Goals as goal

pub returns-in_default : goal.returns-in_default
returns-in_default c =
    let v = c.args in
    next_refused v.question.now v.flags v.best v.capacity v.work.now c.judge_list-judged.result _ c.judge_list-judged.ensures _ c.in_default.is

pub returns-in-Unsettled : goal.returns-in-Unsettled
returns-in-Unsettled c =
    let v = c.args in
    next_unsettled v.question.now v.flags v.best v.capacity v.work.now c.judge_list-judged.result _ c.judge_list-judged.ensures _
    c.in-Ok.is _ c.in-Unsettled.is

pub returns-in-Same : goal.returns-in-Same
returns-in-Same c =
    let v = c.args in
    next_same v.question.now v.flags v.best v.capacity v.work.now c.judge_list-judged.result _ c.judge_list-judged.ensures _
    c.in-Ok.is _ c.in-Same.is _ c.with_same.ensures

pub returns-in-Different : goal.returns-in-Different
returns-in-Different c =
    let v = c.args in
    next_different v.question.now v.flags v.best v.capacity v.work.now c.judge_list-judged.result _ c.judge_list-judged.ensures _
    c.in-Ok.is _ c.in-Different.is
