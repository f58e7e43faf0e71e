use Rattle.steps_placing.proofs.PutLaws.{put_result_long, put_result_inserted, put_result_passed}
use borrow.Author.Rules.{rules}
use Rattle.steps_placing.proofs.put.put_result.Goals as goal

pub returns-then-n-gt-LONGEST_TERM-clause-is : goal.returns-then-n-gt-LONGEST_TERM-clause-is
returns-then-n-gt-LONGEST_TERM-clause-is c =
    let a = c.args in
    put_result_long a.class.now a.action a.res.now a.n a.area.now a.count c.if-n-gt-LONGEST_TERM.true a.area.now

pub returns-else-m-gt-MOST_STEPS-clause-is : goal.returns-else-m-gt-MOST_STEPS-clause-is
returns-else-m-gt-MOST_STEPS-clause-is c =
    let a = c.args in put_result_inserted a.class.now a.action
    a.res.now a.n a.area.now a.count (search rules)
    c.requires.1
    c.entry_of-entry.result c.entry_of-entry.ensures
    c.insert-m.result _ c.insert-m.ensures

pub returns-then-m-gt-MOST_STEPS-clause-is : goal.returns-then-m-gt-MOST_STEPS-clause-is
returns-then-m-gt-MOST_STEPS-clause-is c =
    let a = c.args in
    put_result_passed a.class.now a.action a.res.now a.n a.area.now a.count c.insert-m.result _ (search rules)
    (put_result_inserted a.class.now a.action
    a.res.now a.n a.area.now a.count (search rules)
    c.requires.1
    c.entry_of-entry.result c.entry_of-entry.ensures
    c.insert-m.result _ c.insert-m.ensures)
