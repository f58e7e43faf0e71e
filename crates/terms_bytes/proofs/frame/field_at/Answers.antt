use native.Mathlib.Omega.{arith}
use borrow.Author.Rules.{rules}
use Rattle.terms_bytes.proofs.Places.{field_piece, field-none}
use Rattle.terms_bytes.proofs.frame.field_at.Goals as goal

pub returns-then-question-end : goal.returns-then-question-end
returns-then-question-end c =
    field-none c.args.question.now c.args.at c.after_field-end.result c.after_field-end.ensures c.if-question-end.true

pub overflow_add-from : goal.overflow_add-from
overflow_add-from c =
    omega (
      arith,
      (field_piece c.args.question.now c.args.at c.after_field-end.result
          c.after_field-end.ensures (search rules)).0,
    )

pub slice_bounds-result-count-2 : goal.slice_bounds-result-count-2
slice_bounds-result-count-2 c =
    omega (
      arith,
      (field_piece c.args.question.now c.args.at c.after_field-end.result
          c.after_field-end.ensures (search rules)).0,
    )

pub slice_bounds-result-start-2 : goal.slice_bounds-result-start-2
slice_bounds-result-start-2 c =
    omega (
      arith,
      (field_piece c.args.question.now c.args.at c.after_field-end.result
          c.after_field-end.ensures (search rules)).0,
    )

pub slice_bounds-result-end-2 : goal.slice_bounds-result-end-2
slice_bounds-result-end-2 c =
    omega (
      arith,
      (field_piece c.args.question.now c.args.at c.after_field-end.result
          c.after_field-end.ensures (search rules)).0,
    )

pub returns : goal.returns
returns c =
    (field_piece c.args.question.now c.args.at
    c.after_field-end.result c.after_field-end.ensures (search rules)).1
