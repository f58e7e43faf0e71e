use mathlib.Core.Path.{refl, ◌∙◌}
use native.Mathlib.Omega.{arith}
use Prim.Native.Nat.{◌+◌, ◌-◌}
use Rattle.terms.specs.Edition.{other, encode_in}
use Rattle.terms_bytes.specs.Counted.{edition_from}
use Rattle.terms_converting.specs.Questions.{ConvertsField}
use Rattle.terms_converting.proofs.QuestionLaws.{field_stored}
use Rattle.terms_converting.proofs.question.convert_field.Goals as goal

-- src/question.rt:36:13
pub overflow_sub-n : goal.overflow_sub-n
overflow_sub-n c =
    let p = c.requires in
    let y = c.convert_term-end.ensures.is p.free p.depth p.term p.scope (c.field_at.ensures ∙ p.bytes) (omega (
      arith,
      p.room,
    )) in
    omega (arith, y.0)

pub put_size-requires : goal.put_size-requires
put_size-requires c =
    let p = c.requires in
    let y = c.convert_term-end.ensures.is p.free p.depth p.term p.scope (c.field_at.ensures ∙ p.bytes) (omega (
      arith,
      p.room,
    )) in
    (omega (arith, c.convert_term-end.auto.out, p.room), omega (arith, y.0, p.short))

-- src/question.rt:24:1
pub returns : goal.returns
unfolding ConvertsField
returns c =
    let a = c.args in
    λ free d P s b room. let y = c.convert_term-end.ensures.is free d P s (c.field_at.ensures ∙ b) (omega arith) in (
      omega (arith, y.0),
      field_stored a.out.now (encode_in (other (edition_from a.counted)) d P) a.put (c.convert_term-end.result - (a.put + 2)) _ _ _ y.1
          (omega (arith, y.0)) refl c.put_size.ensures,
    )
