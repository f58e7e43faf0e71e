use mathlib.Core.Path.{sym}
use lib.Seq.{length-take-le}
use native.Mathlib.Omega.{arith}
use Rattle.fewest_search.proofs.SearchLaws.{list_judged}
use Rattle.fewest_search.proofs.search.judge_list.Goals as goal

pub slice_bounds-judge-end : goal.slice_bounds-judge-end
slice_bounds-judge-end c =
    sym (length-take-le _ _ (omega (arith, c.write_question-end.ensures.within, c.write_question-end.auto.out)))

pub returns : goal.returns
returns c =
    let v = c.args in
    list_judged v.question.now _ _ _ c.write_question-end.result v.capacity v.work.now c.judge.result c.judge.new.work
    c.requires.1 c.write_question-end.ensures c.judge.ensures
