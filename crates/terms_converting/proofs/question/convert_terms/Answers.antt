use mathlib.Core.Path.{refl, ◌∙◌}
use native.Mathlib.Omega.{arith}
use Rattle.terms_converting.proofs.QuestionLaws.{copying_start, copying_field, copying_again, copying_done}
use Rattle.terms_converting.proofs.question.convert_terms.Goals as goal

-- src/question.rt:52:5
pub loop-k-init : goal.loop-k-init
loop-k-init c = (refl, omega arith, copying_start _ _ _ c.field_place-at.result c.field_place-at.ensures)

-- src/question.rt:53:9
pub convert_field-put-requires : goal.convert_field-put-requires
convert_field-put-requires c =
    let a = c.args in
    copying_field a.question.now a.counted a.out.now c.requires c.loop-k.k c.loop-k.at c.loop-k.put c.loop-k.out (omega (
      arith,
      c.loop-k-test.true,
      c.definitions-last.ensures.0,
    )) c.loop-k.invariant.0 c.loop-k.invariant.2 c.arities-list.result.now c.arities-list.ensures

-- src/question.rt:52:5

-- src/question.rt:52:5
pub loop-k-preserved : goal.loop-k-preserved
loop-k-preserved c =
    let a = c.args in (
      c.convert_field-put.auto.out ∙ c.loop-k.invariant.0,
      omega arith,
      copying_again a.question.now a.counted a.out.now c.requires
          c.loop-k.k c.loop-k.at c.loop-k.put c.loop-k.out (omega (arith, c.loop-k-test.true, c.definitions-last.ensures.0)) c.loop-k.invariant.0
          c.loop-k.invariant.2 c.arities-list.result.now c.arities-list.ensures c.after_field-at.result c.convert_field-put.result _
          c.convert_field-put.ensures c.after_field-at.ensures,
    )

-- src/question.rt:43:1
pub returns : goal.returns
returns c =
    let a = c.args in
    copying_done a.question.now a.counted a.out.now c.loop-k.k c.loop-k.at c.loop-k.put c.loop-k.out (omega (
      arith,
      c.loop-k-test.false,
      c.loop-k.invariant.1,
      c.definitions-last.ensures.0,
    )) c.loop-k.invariant.2
