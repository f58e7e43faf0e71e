use mathlib.Core.Path.{◌≡◌, ◌∙◌, ap}
use lib.ListN.{length}
use Rattle.steps_splicing.specs.Collecting.{counted}
use Rattle.steps_placing.proofs.WrittenLaws.{silent_apart, silent-merged}
use Rattle.steps_placing.proofs.put.put_silent.Goals as goal

pub put_written-requires : goal.put_written-requires
put_written-requires c =
    let l : length c.if-merges.res ≡ length c.args.res.now = elim c.if-merges.branch [
      | goal.then-merges w ↦ ap length w.res-is ∙ w.merge_names.auto.bytes
      | goal.else-merges w ↦ ap length w.res-is
    ] in
    (c.requires.0, c.requires.1, l ∙ c.requires.2, c.requires.3)

pub returns-clause-is : goal.returns-clause-is
returns-clause-is c =
    let a = c.args in
    elim c.if-merges.branch [
      | goal.then-merges w ↦ silent-merged a.question.now a.class.now a.res.now a.n a.merges a.restricted a.area.now a.count
          (counted c.put_written.result) _ w.arities_of.result.now w.arities_of.ensures _ w.merge_names.ensures (rw w.res-is at c.put_written.ensures.is)
      | goal.else-merges w ↦ silent_apart a.question.now a.class.now a.res.now a.n a.merges a.restricted a.area.now a.count
          (counted c.put_written.result) _ w.if-merges.false (rw w.res-is at c.put_written.ensures.is)
    ]
