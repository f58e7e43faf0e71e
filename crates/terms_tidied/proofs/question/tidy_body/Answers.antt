use mathlib.Core.Path.{refl}
use native.Mathlib.Omega.{arith}
use Prim.Native.Nat.{◌+◌, ◌-◌}
use Rattle.calculus.specs.Tidy.{tidy}
use Rattle.terms.specs.Encoding.{encode}
use Rattle.terms_converting.proofs.QuestionLaws.{field_stored}
use Rattle.terms_tidied.specs.TidiedBodies.{TidiesBody}
use Rattle.terms_tidied.proofs.TidiedQuestion.{body-tidied, body_shorter}
use Rattle.terms_tidied.proofs.question.tidy_body.Goals as goal

-- src/question.rt:19:13
pub overflow_sub-n : goal.overflow_sub-n
overflow_sub-n c =
    let a = c.args in
    let p = c.requires in
    let b = body-tidied a.question.now a.at a.list.now a.out.now a.put p.depth p.term p.body _ c.field_at.ensures
    c.tidy-e.result _ c.tidy-e.ensures in
    omega (arith, b.0)

pub put_size-requires : goal.put_size-requires
put_size-requires c =
    let a = c.args in
    let p = c.requires in
    let b = body-tidied a.question.now a.at a.list.now a.out.now a.put p.depth p.term p.body _ c.field_at.ensures
    c.tidy-e.result _ c.tidy-e.ensures in (
      omega (arith, c.tidy-e.auto.out, p.body.room),
      omega (arith, b.0, body_shorter a.question.now a.at a.list.now a.out.now a.put p.depth p.term p.body),
    )

-- src/question.rt:13:1
pub returns : goal.returns
unfolding TidiesBody
returns c =
    let a = c.args in
    λ d P b. let y = body-tidied a.question.now a.at a.list.now a.out.now a.put d P b _ c.field_at.ensures c.tidy-e.result _
    c.tidy-e.ensures in (
      omega (arith, y.0),
      field_stored a.out.now (encode d (tidy P)) a.put (c.tidy-e.result.written - (a.put + 2)) _
          _ _ y.1 (omega (arith, y.0)) refl c.put_size.ensures,
    )
