use lib.ListN.{length}
use mathlib.Core.Path.{◌≡◌}
use native.Mathlib.Omega.{arith}
use Rattle.steps_splicing.specs.Collecting.{counted}
use Rattle.steps_placing.proofs.TakeLaws.{step-put}
use borrow.Author.Rules.{rules}
use Rattle.steps_placing.proofs.candidate.put_step.Goals as goal

pub put_classed-requires : goal.put_classed-requires
put_classed-requires c =
    let g = c.requires in let l : length
    c.args.header.condition.class ≡ 256 = search rules
    in (g, omega arith)

pub returns-clause-is : goal.returns-clause-is
returns-clause-is c =
    let a = c.args in
    step-put a.question.now a.part.now a.candidate.silently a.candidate.number a.header a.candidate.x a.area.now a.count
    c.action_bytes-bytes.result c.action_bytes-bytes.ensures (counted c.put_classed.result) _ c.put_classed.ensures.is
