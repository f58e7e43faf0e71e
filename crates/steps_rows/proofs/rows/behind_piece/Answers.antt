use mathlib.Core.Path.{sym, ◌∙◌}
use lib.ListN.{get_or}
use borrow.Author.Tests.{eq-eqb, ne_eqb}
use Rattle.steps_equal_branches.specs.BranchRows.{behind_piece}
use Rattle.steps_rows.proofs.rows.behind_piece.Goals as goal

pub returns-then-src-p-eq-CHOICE : goal.returns-then-src-p-eq-CHOICE
unfolding behind_piece
returns-then-src-p-eq-CHOICE c =
    simp (eq-eqb (get_or c.args.src.now c.args.p 0) 6 c.if-src-p-eq-CHOICE.true)

pub returns-then-is_trivial : goal.returns-then-is_trivial
unfolding behind_piece
returns-then-is_trivial c =
    simp (ne_eqb (get_or c.args.src.now c.args.p 0) 6 c.if-src-p-eq-CHOICE.false, sym c.is_trivial.ensures ∙ c.if-is_trivial.true)

pub returns : goal.returns
unfolding behind_piece
returns c =
    simp (ne_eqb (get_or c.args.src.now c.args.p 0) 6 c.if-src-p-eq-CHOICE.false, sym c.is_trivial.ensures ∙ c.if-is_trivial.false)
    c.end_at.ensures
