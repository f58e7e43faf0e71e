use native.Mathlib.Omega.{arith}
use Rattle.terms_converting.proofs.PlainForm.{plain_may, plain_room, plain_size}
use Rattle.terms_merging.proofs.MergeCounted.{may_merge_plain, merged_room, merged-size, may_convert_merged, merged-counted}
use borrow.Author.Rules.{rules}
use Rattle.terms_merging.proofs.merge.write_merged_counted.Goals as goal

-- src/merge.rt:91:9
pub convert_question-n-requires : goal.convert_question-n-requires
convert_question-n-requires c =
    let a = c.args in plain_may a.question.now c.requires.old
    c.requires.accepted _ (search rules)

-- src/merge.rt:93:26
pub slice_bounds-plain-end : goal.slice_bounds-plain-end
slice_bounds-plain-end c =
    let a = c.args in
    omega (arith, plain_room a.question.now c.requires.old c.requires.accepted _ _ _ c.convert_question-n.ensures)

-- src/merge.rt:93:26
pub slice_bounds-write_merged-end : goal.slice_bounds-write_merged-end
slice_bounds-write_merged-end c =
    let a = c.args in
    plain_size a.question.now c.requires.old c.requires.accepted _ _ _ c.convert_question-n.ensures

-- src/merge.rt:93:9
pub write_merged-m-requires : goal.write_merged-m-requires
write_merged-m-requires c =
    let a = c.args in may_merge_plain a.question.now a.a a.b a.area.now
    c.requires _ _ _ c.convert_question-n.ensures _ (search rules)

-- src/merge.rt:94:22
pub slice_bounds-merged-end : goal.slice_bounds-merged-end
slice_bounds-merged-end c =
    let a = c.args in
    omega (
      arith,
      merged_room a.question.now a.a a.b a.area.now c.requires _ _ _ c.convert_question-n.ensures _ _ _
          c.write_merged-m.ensures,
    )

-- src/merge.rt:94:22
pub slice_bounds-convert_question-end-2 : goal.slice_bounds-convert_question-end-2
slice_bounds-convert_question-end-2 c =
    let a = c.args in
    merged-size a.question.now a.a a.b a.area.now c.requires _ _ _ c.convert_question-n.ensures _ _ _
    c.write_merged-m.ensures

-- src/merge.rt:94:5
pub convert_question-requires : goal.convert_question-requires
convert_question-requires c =
    let a = c.args in
    may_convert_merged a.question.now a.a a.b a.area.now c.requires _ _ _ c.convert_question-n.ensures _ _ _
    c.write_merged-m.ensures

-- src/merge.rt:86:1
pub returns : goal.returns
returns c =
    let a = c.args in
    merged-counted a.question.now a.a a.b a.area.now c.requires _ _ _ c.convert_question-n.ensures _ _ _ c.write_merged-m.ensures
    _ _ c.convert_question.ensures
