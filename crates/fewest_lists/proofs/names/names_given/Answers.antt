use mathlib.Core.Path.{sym, ◌∙◌}
use native.Mathlib.Omega.{arith}
use Rattle.fewest_lists.proofs.NameLaws.{too_many, few_enough, each_end, each_no_name, each_again, each_on}
use Rattle.fewest_lists.proofs.names.names_given.Goals as goal

pub returns-then-names-gt-MOST_NAMES : goal.returns-then-names-gt-MOST_NAMES
returns-then-names-gt-MOST_NAMES c = too_many c.args.names.now (omega arith)

pub loop-i-init : goal.loop-i-init
loop-i-init c = few_enough c.args.names.now (omega arith)

pub returns-then-n-ge-NAME_COUNT : goal.returns-then-n-ge-NAME_COUNT
returns-then-n-ge-NAME_COUNT c =
    each_no_name c.args.names.now c.loop-i.i (omega arith) c.if-n-ge-NAME_COUNT.true ∙ sym c.loop-i.invariant

pub returns-then-has_name : goal.returns-then-has_name
returns-then-has_name c =
    each_again c.args.names.now c.loop-i.i (omega arith) (sym c.if-has_name.true ∙ c.has_name.ensures) ∙ sym c.loop-i.invariant

pub loop-i-preserved : goal.loop-i-preserved
loop-i-preserved c =
    c.loop-i.invariant ∙ each_on c.args.names.now c.loop-i.i (omega arith) (omega arith) (sym c.if-has_name.false ∙ c.has_name.ensures)

pub returns : goal.returns
returns c = each_end c.args.names.now c.loop-i.i (omega arith) ∙ sym c.loop-i.invariant
