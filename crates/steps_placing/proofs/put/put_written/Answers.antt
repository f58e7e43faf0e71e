use native.Mathlib.Omega.{arith}
use lib.Seq.{length-take-le}
use mathlib.Core.Path.{refl, sym}
use lib.ListN.{replicate}
use Rattle.terms.specs.Limits.{longest_term}
use Rattle.steps_splicing.specs.Collecting.{counted}
use Rattle.steps_placing.proofs.WrittenLaws.{written_plain, written-tested, written-tidied}
use Rattle.steps_placing.proofs.put.put_written.Goals as goal

pub slice_bounds-is_tidied-end : goal.slice_bounds-is_tidied-end
slice_bounds-is_tidied-end c =
    let k = c.requires.3 c.if-restricted.true in
    sym (length-take-le c.args.n c.args.res.now (omega (arith, c.requires.2)))

pub returns-then-not-is_tidied-clause-is : goal.returns-then-not-is_tidied-clause-is
returns-then-not-is_tidied-clause-is c =
    let a = c.args in
    written-tidied a.question.now a.class.now a.action a.res.now a.n a.restricted a.area.now a.count
    (counted c.put_result.result) _ (c.requires.3 c.if-restricted.true) c.arities_of-arities.result.now c.arities_of-arities.ensures (replicate
    longest_term 0) _ c.tidy-e.result refl c.tidy-e.ensures c.put_result.ensures.is

pub returns-clause-is : goal.returns-clause-is
returns-clause-is c =
    let a = c.args in
    elim c.if-restricted.branch [
      | goal.then-restricted+else-not-is_tidied w ↦ written-tested a.question.now a.class.now a.action a.res.now a.n a.restricted a.area.now a.count
          (counted c.put_result-2.result) _ (c.requires.3 w.if-restricted.true) w.arities_of-arities.result.now w.arities_of-arities.ensures w.is_tidied.result
          w.if-not-is_tidied.false w.is_tidied.ensures c.put_result-2.ensures.is
      | goal.else-restricted w ↦ written_plain a.question.now a.class.now a.action a.res.now a.n a.restricted a.area.now a.count
          (counted c.put_result-2.result) _ w.if-restricted.false c.put_result-2.ensures.is
    ]
