use native.Mathlib.Omega.{arith}
use Rattle.terms.specs.Limits.{name_count}
use Rattle.steps.specs.Listed.{names_from}
use Rattle.field_pairs.specs.PairNumbers.{row_start}
use Rattle.field_pairs.proofs.PairNumbering.{row_table}
use Rattle.field_pairs.proofs.NamePairs.{number_from_row}
use borrow.Author.Rules.{rules}
use Rattle.field_pairs.proofs.pairs.number.Goals as goal

pub returns : goal.returns
unfolding row_start names_from
returns c = number_from_row c.args.a c.args.b _ (search rules) (search rules) (row_table name_count c.args.a 0 (omega arith))

pub overflow_cast-result : goal.overflow_cast-result
unfolding row_start names_from
overflow_cast-result c =
    let n = number_from_row c.args.a c.args.b _ (search rules) (search rules) (row_table name_count c.args.a 0 (omega arith)) in
    omega (arith, n.below)

pub overflow_add-result : goal.overflow_add-result
unfolding row_start names_from
overflow_add-result c =
    let n = number_from_row c.args.a c.args.b _ (search rules) (search rules) (row_table name_count c.args.a 0 (omega arith)) in
    record { fits = omega (arith, n.below) }
