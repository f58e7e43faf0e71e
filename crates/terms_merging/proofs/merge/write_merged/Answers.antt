use mathlib.Core.Path.{ap, ◌∙◌}
use native.Mathlib.Omega.{arith}
use Rattle.terms_bytes.specs.FieldPlaces.{field_place}
use Rattle.terms_bytes.proofs.QuestionPlaces.{accepted_places}
use Rattle.terms_merging.proofs.MergeWriting.{writes_merged}
use Rattle.terms_merging.proofs.merge.write_merged.Goals as goal

pub copy-requires : goal.copy-requires
copy-requires c = omega (arith, c.requires.room)

pub overflow_add-first : goal.overflow_add-first
overflow_add-first c =
    let s = c.args.question.now in
    let p = accepted_places s c.requires.accepted c.field_place-first.result c.after_field-second.result c.after_field-apart.result
    (c.field_place-first.ensures ∙ ap (field_place s) c.definitions.ensures.0) c.after_field-second.ensures c.after_field-apart.ensures in
    omega (arith, p, c.well_formed.0)

pub overflow_add-first-2 : goal.overflow_add-first-2
overflow_add-first-2 c =
    let s = c.args.question.now in
    let p = accepted_places s c.requires.accepted c.field_place-first.result c.after_field-second.result c.after_field-apart.result
    (c.field_place-first.ensures ∙ ap (field_place s) c.definitions.ensures.0) c.after_field-second.ensures c.after_field-apart.ensures in
    omega (arith, p, c.well_formed.0)

pub overflow_add-second : goal.overflow_add-second
overflow_add-second c =
    let s = c.args.question.now in
    let p = accepted_places s c.requires.accepted c.field_place-first.result c.after_field-second.result c.after_field-apart.result
    (c.field_place-first.ensures ∙ ap (field_place s) c.definitions.ensures.0) c.after_field-second.ensures c.after_field-apart.ensures in
    omega (arith, p, c.well_formed.0)

pub overflow_add-second-2 : goal.overflow_add-second-2
overflow_add-second-2 c =
    let s = c.args.question.now in
    let p = accepted_places s c.requires.accepted c.field_place-first.result c.after_field-second.result c.after_field-apart.result
    (c.field_place-first.ensures ∙ ap (field_place s) c.definitions.ensures.0) c.after_field-second.ensures c.after_field-apart.ensures in
    omega (arith, p, c.well_formed.0)

pub overflow_add-apart : goal.overflow_add-apart
overflow_add-apart c =
    let s = c.args.question.now in
    let p = accepted_places s c.requires.accepted c.field_place-first.result c.after_field-second.result c.after_field-apart.result
    (c.field_place-first.ensures ∙ ap (field_place s) c.definitions.ensures.0) c.after_field-second.ensures c.after_field-apart.ensures in
    omega (arith, p, c.size_at-pairs.ensures, c.well_formed.0)

pub slice_bounds-rename_bytes-end : goal.slice_bounds-rename_bytes-end
slice_bounds-rename_bytes-end c =
    omega (arith, c.merging-table.type_inv)

pub overflow_add-apart-2 : goal.overflow_add-apart-2
overflow_add-apart-2 c =
    let s = c.args.question.now in
    let p = accepted_places s c.requires.accepted c.field_place-first.result c.after_field-second.result c.after_field-apart.result
    (c.field_place-first.ensures ∙ ap (field_place s) c.definitions.ensures.0) c.after_field-second.ensures c.after_field-apart.ensures in
    omega (arith, p, c.size_at-pairs.ensures, c.well_formed.0)

pub rename_bytes-requires : goal.rename_bytes-requires
rename_bytes-requires c =
    let s = c.args.question.now in
    let p = accepted_places s c.requires.accepted c.field_place-first.result c.after_field-second.result c.after_field-apart.result
    (c.field_place-first.ensures ∙ ap (field_place s) c.definitions.ensures.0) c.after_field-second.ensures c.after_field-apart.ensures in
    omega (
      arith,
      p.apart_ends,
      c.size_at-pairs.ensures.0,
      c.requires.room,
      c.copy.auto.out,
      c.rename.auto.out,
      c.rename-2.auto.out,
    )

pub returns : goal.returns
returns c =
    let v = c.args in
    let s = v.question.now in
    writes_merged s v.a v.b v.area.now _ c.requires.small c.requires.small' c.requires.room (record {
      table = c.merging-table.result;
      first = c.field_place-first.result;
      second = c.after_field-second.result;
      apart = c.after_field-apart.result;
      pairs = c.size_at-pairs.result;
      arities =
          c.arities-parameters.result.now;
      copied = _;
      one = _;
      two = _;
      r₁ = c.rename.result;
      r₂ = c.rename-2.result;
      table_is = c.merging-table.ensures;
      arities_are = c.arities-parameters.ensures;
      first_at = c.field_place-first.ensures ∙ ap (field_place s) c.definitions.ensures.0;
      second_at =
          c.after_field-second.ensures;
      apart_at = c.after_field-apart.ensures;
      pairs_at = c.size_at-pairs.ensures.0;
      copying = c.copy.ensures;
      renaming_first = c.rename.ensures;
      renaming_second = c.rename-2.ensures;
      renaming_apart = c.rename_bytes.ensures;
    })
