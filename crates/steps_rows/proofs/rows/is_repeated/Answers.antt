use mathlib.Core.Path.{subst}
use Rattle.steps_equal_branches.specs.Same.{SameBranchIs}
use native.Mathlib.Omega.{arith}
use Rattle.steps_equal_branches.proofs.ChoiceLaws.{ahead_start, ahead_next, behind_on, repeated_none, repeated_found}
use Rattle.steps_rows.proofs.rows.is_repeated.Goals as goal

pub loop-p-init : goal.loop-p-init
loop-p-init c =
    let a = c.args in
    let q = c.requires in
    λ T. ahead_start a.question.now a.src.now a.tally.now a.args.now a.inner a.depth a.root a.at

pub may_be_same-requires : goal.may_be_same-requires
may_be_same-requires c =
    let q = c.requires in
    let r = q.3 in
    (c.loop-p-test.true, q.0, q.2, omega arith)

pub same_branch-requires : goal.same_branch-requires
same_branch-requires c =
    let a = c.args in
    let q = c.requires in
    (c.loop-p-test.true, q.2, q.3)

pub returns-then-same_branch : goal.returns-then-same_branch
returns-then-same_branch c =
    let a = c.args in
    let m = c.may_be_same.ensures c.if-may_be_same.true in
    λ T. repeated_found a.question.now a.src.now a.tally.now a.args.now a.inner a.depth a.root a.at T c.loop-p.p
    c.loop-p-test.true (c.loop-p.invariant T) c.arities_of.result.now c.arities_of.ensures (subst (SameBranchIs a.src.now c.loop-p.p
    a.at c.arities_of.result.now a.args.now a.inner a.depth) c.if-same_branch.true c.same_branch.ensures) m.0 m.1

pub behind_piece-p-requires : goal.behind_piece-p-requires
behind_piece-p-requires c =
    let a = c.args in
    let q = c.requires in
    let r = q.3 in
    (omega (arith, c.loop-p-test.true, q.0), q.2, omega arith)

pub loop-p-smaller : goal.loop-p-smaller
loop-p-smaller c =
    let a = c.args in
    let q = c.requires in
    let h = behind_on a.src.now a.tally.now a.args.now a.inner a.depth c.loop-p.p q.1 (omega (
      arith,
      c.loop-p-test.true,
      q.0,
    )) in
    omega (arith, c.loop-p-test.true, c.behind_piece-p.ensures)

pub loop-p-preserved : goal.loop-p-preserved
loop-p-preserved c =
    let a = c.args in
    let q = c.requires in
    λ T. ahead_next a.question.now a.src.now a.tally.now a.args.now a.inner a.depth a.root a.at T c.loop-p.p
    c.loop-p-test.true (c.loop-p.invariant T) c.behind_piece-p.result c.behind_piece-p.ensures

pub returns : goal.returns
returns c =
    let a = c.args in
    let q = c.requires in
    λ T. repeated_none a.question.now a.src.now a.tally.now a.args.now a.inner a.depth a.root a.at
