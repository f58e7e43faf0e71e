use mathlib.Core.Path.{refl, ap, ◌∙◌}
use native.Mathlib.Omega.{arith}
use lib.ListN.{length-set}
use Rattle.terms_bytes.specs.FieldPlaces.{field_place}
use Rattle.fewest_lists.specs.Lists.{PairsWritten}
use Rattle.fewest_lists.proofs.PairWriting.{flagged-bytes}
use Rattle.fewest_lists.proofs.QuestionWriting.{apart_inside, apart_room, question_written}
use borrow.Author.Rules.{rules}
use Rattle.fewest_lists.proofs.lists.write_question.Goals as goal

pub copy-requires : goal.copy-requires
copy-requires c =
    let v = c.args in (
      omega (
        arith,
        apart_inside v.question.now c.field_place-first.result c.after_field-second.result c.after_field-apart.result
            (c.field_place-first.ensures ∙ ap (field_place v.question.now) c.definitions.ensures.0) c.after_field-second.ensures
            c.after_field-apart.ensures c.requires.0,
      ),
      omega (
        arith,
        apart_room v.question.now c.field_place-first.result c.after_field-second.result
            c.after_field-apart.result (c.field_place-first.ensures ∙ ap (field_place v.question.now) c.definitions.ensures.0)
            c.after_field-second.ensures c.after_field-apart.ensures c.requires.0,
      ),
    )

pub overflow_add-apart : goal.overflow_add-apart
overflow_add-apart c =
    omega (
      arith,
      apart_room c.args.question.now c.field_place-first.result c.after_field-second.result c.after_field-apart.result
          (c.field_place-first.ensures ∙ ap (field_place c.args.question.now) c.definitions.ensures.0) c.after_field-second.ensures
          c.after_field-apart.ensures c.requires.0,
    )

pub write_pairs-end-requires : goal.write_pairs-end-requires
write_pairs-end-requires c = (
  search rules,
  omega (
    arith,
    apart_room
        c.args.question.now
        c.field_place-first.result
        c.after_field-second.result c.after_field-apart.result
        (c.field_place-first.ensures ∙ ap (field_place
        c.args.question.now)
        c.definitions.ensures.0)
        c.after_field-second.ensures c.after_field-apart.ensures
        c.requires.0,
  ),
)

pub overflow_sub-size : goal.overflow_sub-size
unfolding PairsWritten
overflow_sub-size c = omega (arith, c.write_pairs-end.ensures.ends)

pub overflow_sub-size-2 : goal.overflow_sub-size-2
unfolding PairsWritten
overflow_sub-size-2 c = omega (arith, c.write_pairs-end.ensures.ends)

pub overflow_cast-out : goal.overflow_cast-out
unfolding PairsWritten
overflow_cast-out c =
    omega (arith, c.write_pairs-end.ensures.ends, flagged-bytes c.args.flags.now)

pub bounds-out-apart : goal.bounds-out-apart
bounds-out-apart c =
    omega (
      arith,
      apart_room c.args.question.now c.field_place-first.result c.after_field-second.result c.after_field-apart.result
          (c.field_place-first.ensures ∙ ap (field_place c.args.question.now) c.definitions.ensures.0) c.after_field-second.ensures
          c.after_field-apart.ensures c.requires.0,
      c.write_pairs-end.auto.out,
      c.copy.auto.out,
      c.requires.2,
    )

pub overflow_add-out : goal.overflow_add-out
overflow_add-out c =
    omega (
      arith,
      apart_room c.args.question.now c.field_place-first.result c.after_field-second.result c.after_field-apart.result
          (c.field_place-first.ensures ∙ ap (field_place c.args.question.now) c.definitions.ensures.0) c.after_field-second.ensures
          c.after_field-apart.ensures c.requires.0,
    )

pub bounds-out-apart-2 : goal.bounds-out-apart-2
bounds-out-apart-2 c =
    simp length-set (omega (
      arith,
      apart_room c.args.question.now c.field_place-first.result c.after_field-second.result
          c.after_field-apart.result (c.field_place-first.ensures ∙ ap (field_place c.args.question.now) c.definitions.ensures.0)
          c.after_field-second.ensures c.after_field-apart.ensures c.requires.0,
      c.write_pairs-end.auto.out,
      c.copy.auto.out,
      c.requires.2,
    ))

pub returns : goal.returns
returns c =
    let v = c.args in
    question_written v.question.now v.flags.now v.out.now _ _ c.field_place-first.result c.after_field-second.result
    c.after_field-apart.result c.write_pairs-end.result _ (c.field_place-first.ensures ∙ ap (field_place v.question.now)
    c.definitions.ensures.0) c.after_field-second.ensures c.after_field-apart.ensures c.requires.0 c.requires.2 c.copy.ensures
    c.write_pairs-end.ensures refl
