use mathlib.Core.Path.{refl, ◌∙◌}
use native.Mathlib.Omega.{arith}
use Rattle.terms_tidied.proofs.TidiedQuestion.{writing_start, writing_body, writing_again, writing_done}
use Rattle.terms_tidied.proofs.question.tidy_all.Goals as goal

-- src/question.rt:35:5
pub loop-k-init : goal.loop-k-init
loop-k-init c = (refl, omega arith, writing_start _ _ c.field_place-at.result c.field_place-at.ensures)

-- src/question.rt:36:9
pub tidy_body-put-requires : goal.tidy_body-put-requires
tidy_body-put-requires c =
    let a = c.args in
    writing_body a.question.now a.out.now c.requires c.loop-k.k c.loop-k.at c.loop-k.put c.loop-k.out (omega (
      arith,
      c.loop-k-test.true,
      c.definitions-last.ensures.0,
    )) c.loop-k.invariant.0 c.loop-k.invariant.2 c.arities-list.result.now
    c.arities-list.ensures

-- src/question.rt:35:5

-- src/question.rt:35:5
pub loop-k-preserved : goal.loop-k-preserved
loop-k-preserved c =
    let a = c.args in (
      c.tidy_body-put.auto.out ∙ c.loop-k.invariant.0,
      omega arith,
      writing_again a.question.now a.out.now c.requires c.loop-k.k
          c.loop-k.at c.loop-k.put c.loop-k.out (omega (arith, c.loop-k-test.true, c.definitions-last.ensures.0)) c.loop-k.invariant.0
          c.loop-k.invariant.2 c.arities-list.result.now c.arities-list.ensures c.after_field-at.result c.tidy_body-put.result _ c.tidy_body-put.ensures
          c.after_field-at.ensures,
    )

-- src/question.rt:26:1
pub returns : goal.returns
returns c =
    let a = c.args in
    writing_done a.question.now a.out.now c.loop-k.k c.loop-k.at c.loop-k.put c.loop-k.out (omega (
      arith,
      c.loop-k-test.false,
      c.loop-k.invariant.1,
      c.definitions-last.ensures.0,
    )) c.loop-k.invariant.2
