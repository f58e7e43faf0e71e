use mathlib.Core.Path.{refl, ap, ◌∙◌}
use native.Mathlib.Omega.{arith}
use Rattle.terms_bytes.specs.FieldPlaces.{field_place}
use Rattle.terms.specs.Question.{edition_of, question_with}
use Rattle.terms_bytes.proofs.QuestionPlaces.{places_in_lem, sizes_in}
use Rattle.terms_beside.proofs.BesideWriting.{writes_beside}
use Rattle.terms_beside.proofs.beside.write_beside.Goals as goal

pub overflow_sub-rest : goal.overflow_sub-rest
unfolding question_with
overflow_sub-rest c =
    let s = c.args.question.now in
    let x = c.field_place-first.ensures ∙ ap (field_place s) c.definitions.ensures.0 in
    let p = places_in_lem (edition_of s) s c.requires.old c.requires.accepted c.field_place-first.result c.after_field-second.result c.after_field-apart.result x
    c.after_field-second.ensures c.after_field-apart.ensures in
    omega (arith, p, c.well_formed.0)

pub copy-requires : goal.copy-requires
unfolding question_with
copy-requires c =
    let s = c.args.question.now in
    let x = c.field_place-first.ensures ∙ ap (field_place s) c.definitions.ensures.0 in
    let p = places_in_lem (edition_of s) s c.requires.old c.requires.accepted c.field_place-first.result c.after_field-second.result c.after_field-apart.result x
    c.after_field-second.ensures c.after_field-apart.ensures in
    omega (arith, p, c.requires.room)

pub overflow_add-first : goal.overflow_add-first
unfolding question_with
overflow_add-first c =
    let s = c.args.question.now in
    let x = c.field_place-first.ensures ∙ ap (field_place s) c.definitions.ensures.0 in
    let p = places_in_lem (edition_of s) s c.requires.old c.requires.accepted c.field_place-first.result c.after_field-second.result c.after_field-apart.result
    x c.after_field-second.ensures c.after_field-apart.ensures in
    omega (arith, p, c.well_formed.0)

pub overflow_sub-second : goal.overflow_sub-second
unfolding question_with
overflow_sub-second c =
    let s = c.args.question.now in
    let x = c.field_place-first.ensures ∙ ap (field_place s) c.definitions.ensures.0 in
    let p = places_in_lem (edition_of s) s c.requires.old c.requires.accepted c.field_place-first.result c.after_field-second.result c.after_field-apart.result
    x c.after_field-second.ensures c.after_field-apart.ensures in
    omega (arith, p, c.well_formed.0)

pub overflow_sub-second-2 : goal.overflow_sub-second-2
unfolding question_with
overflow_sub-second-2 c =
    let s = c.args.question.now in
    let x = c.field_place-first.ensures ∙ ap (field_place s) c.definitions.ensures.0 in
    let p = places_in_lem (edition_of s) s c.requires.old c.requires.accepted c.field_place-first.result c.after_field-second.result c.after_field-apart.result
    x c.after_field-second.ensures c.after_field-apart.ensures in
    omega (arith, p, c.well_formed.0)

pub write_side-one-requires : goal.write_side-one-requires
unfolding question_with
write_side-one-requires c =
    let s = c.args.question.now in
    let x = c.field_place-first.ensures ∙ ap (field_place s) c.definitions.ensures.0 in
    let p = places_in_lem (edition_of s) s c.requires.old c.requires.accepted c.field_place-first.result c.after_field-second.result c.after_field-apart.result
    x c.after_field-second.ensures c.after_field-apart.ensures in
    let z = sizes_in (edition_of s) s c.requires.old c.requires.accepted c.field_place-first.result c.after_field-second.result x
    c.after_field-second.ensures in
    omega (arith, p, z, c.requires.first, c.requires.room, c.copy.auto.out)

pub overflow_add-second : goal.overflow_add-second
unfolding question_with
overflow_add-second c =
    let s = c.args.question.now in
    let x = c.field_place-first.ensures ∙ ap (field_place s) c.definitions.ensures.0 in
    let p = places_in_lem (edition_of s) s c.requires.old c.requires.accepted c.field_place-first.result c.after_field-second.result
    c.after_field-apart.result x c.after_field-second.ensures c.after_field-apart.ensures in
    omega (arith, p, c.well_formed.0)

pub overflow_sub-apart : goal.overflow_sub-apart
unfolding question_with
overflow_sub-apart c =
    let s = c.args.question.now in
    let x = c.field_place-first.ensures ∙ ap (field_place s) c.definitions.ensures.0 in
    let p = places_in_lem (edition_of s) s c.requires.old c.requires.accepted c.field_place-first.result c.after_field-second.result
    c.after_field-apart.result x c.after_field-second.ensures c.after_field-apart.ensures in
    omega (arith, p, c.well_formed.0)

pub overflow_sub-apart-2 : goal.overflow_sub-apart-2
unfolding question_with
overflow_sub-apart-2 c =
    let s = c.args.question.now in
    let x = c.field_place-first.ensures ∙ ap (field_place s) c.definitions.ensures.0 in
    let p = places_in_lem (edition_of s) s c.requires.old c.requires.accepted c.field_place-first.result c.after_field-second.result
    c.after_field-apart.result x c.after_field-second.ensures c.after_field-apart.ensures in
    omega (arith, p, c.well_formed.0)

pub write_side-two-requires : goal.write_side-two-requires
unfolding question_with
write_side-two-requires c =
    let s = c.args.question.now in
    let x = c.field_place-first.ensures ∙ ap (field_place s) c.definitions.ensures.0 in
    let p = places_in_lem (edition_of s) s c.requires.old c.requires.accepted c.field_place-first.result c.after_field-second.result
    c.after_field-apart.result x c.after_field-second.ensures c.after_field-apart.ensures in
    let z = sizes_in (edition_of s) s c.requires.old c.requires.accepted c.field_place-first.result c.after_field-second.result x
    c.after_field-second.ensures in
    omega (arith, p, z, c.requires.second, c.requires.room, c.write_side-one.ensures.0, c.copy.auto.out, c.write_side-one.auto.area)

pub copy-requires-2 : goal.copy-requires-2
unfolding question_with
copy-requires-2 c =
    let s = c.args.question.now in
    let x = c.field_place-first.ensures ∙ ap (field_place s) c.definitions.ensures.0 in
    let p = places_in_lem (edition_of s) s c.requires.old c.requires.accepted c.field_place-first.result c.after_field-second.result
    c.after_field-apart.result x c.after_field-second.ensures c.after_field-apart.ensures in
    omega (
      arith,
      p,
      c.requires.room,
      c.write_side-one.ensures.0,
      c.write_side-two.ensures.0,
      c.copy.auto.out,
      c.write_side-one.auto.area,
      c.write_side-two.auto.area,
    )

pub overflow_add-result : goal.overflow_add-result
unfolding question_with
overflow_add-result c =
    let s = c.args.question.now in
    let x = c.field_place-first.ensures ∙ ap (field_place s) c.definitions.ensures.0 in
    let p = places_in_lem (edition_of s) s c.requires.old c.requires.accepted c.field_place-first.result c.after_field-second.result
    c.after_field-apart.result x c.after_field-second.ensures c.after_field-apart.ensures in
    omega (arith, p, c.requires.room, c.write_side-one.ensures.0, c.write_side-two.ensures.0, c.well_formed)

pub returns : goal.returns
returns c =
    let v = c.args in
    let s = v.question.now in
    writes_beside s v.third.now v.area.now _ _ c.requires.room (record {
      first = c.field_place-first.result;
      second =
          c.after_field-second.result;
      apart = c.after_field-apart.result;
      one = c.write_side-one.result;
      two = c.write_side-two.result;
      copied = _;
      on_first =
          _;
      on_second = _;
      first_at = c.field_place-first.ensures ∙ ap (field_place s) c.definitions.ensures.0;
      second_at = c.after_field-second.ensures;
      apart_at = c.after_field-apart.ensures;
      copying = c.copy.ensures;
      first_ends = c.write_side-one.ensures.0;
      writing_first =
          c.write_side-one.ensures.1;
      second_ends = c.write_side-two.ensures.0;
      writing_second = c.write_side-two.ensures.1;
      copying_rest =
          c.copy-2.ensures;
      answer = refl;
    })
