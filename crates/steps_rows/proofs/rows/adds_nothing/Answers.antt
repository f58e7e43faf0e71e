use mathlib.Core.Path.{sym, ◌∙◌}
use native.Mathlib.Omega.{arith}
use Rattle.steps_equal_branches.proofs.ChoiceLaws.{repeated_failing}
use Rattle.steps_rows.proofs.rows.adds_nothing.Goals as goal

pub is_failing-requires : goal.is_failing-requires
is_failing-requires c =
    let r = c.requires.3 in
    (c.requires.0, c.requires.2, omega arith)

pub returns-then-is_failing : goal.returns-then-is_failing
returns-then-is_failing c =
    let a = c.args in
    λ T. repeated_failing a.question.now a.src.now a.tally.now a.args.now a.inner a.depth a.root a.at (sym
    c.is_failing.ensures ∙ c.if-is_failing.true)
