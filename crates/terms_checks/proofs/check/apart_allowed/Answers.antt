use mathlib.Core.Path.{sym, ap, ap₂, ◌∙◌}
use native.Mathlib.Omega.{arith}
use Rattle.terms.specs.Question.{different_names}
use Rattle.terms_checks.specs.Checking.{zero_for}
use Rattle.terms_checks.proofs.CheckLaws.{apart_short, apart_long, pairs_done, pairs_odd, pairs_wrong, pairs-more}
use Rattle.terms_checks.proofs.check.apart_allowed.Goals as goal

pub returns-then-list-gt-LONGEST_APART : goal.returns-then-list-gt-LONGEST_APART
returns-then-list-gt-LONGEST_APART c = let a = c.args in apart_long a.list.now c.if-list-gt-LONGEST_APART.true

pub loop-i-init : goal.loop-i-init
loop-i-init c = let a = c.args in (c.if-list-gt-LONGEST_APART.false, ap zero_for (apart_short a.list.now c.if-list-gt-LONGEST_APART.false))

pub returns-then-list-i : goal.returns-then-list-i
returns-then-list-i c =
    let a = c.args in
    c.loop-i.invariant.1 ∙ pairs_odd a.list.now c.loop-i.i (omega arith) c.if-list-i.true

pub returns-then-not-different_names : goal.returns-then-not-different_names
returns-then-not-different_names c =
    let a = c.args in
    c.loop-i.invariant.1 ∙ pairs_wrong a.list.now c.loop-i.i c.if-list-i.false (sym (ap₂ different_names c.get.ensures
    c.get-in-loop-i.ensures) ∙ sym c.different_names.ensures ∙ c.if-not-different_names.true)

pub overflow_add-i-in-loop-i-2 : goal.overflow_add-i-in-loop-i-2
overflow_add-i-in-loop-i-2 c = omega (arith, c.loop-i.invariant)

pub loop-i-smaller : goal.loop-i-smaller
loop-i-smaller c = omega arith

pub loop-i-preserved : goal.loop-i-preserved
loop-i-preserved c =
    let a = c.args in (
      c.loop-i.invariant.0,
      c.loop-i.invariant.1 ∙ pairs-more a.list.now c.loop-i.i c.if-list-i.false (sym (ap₂ different_names c.get.ensures
          c.get-in-loop-i.ensures) ∙ sym c.different_names.ensures ∙ c.if-not-different_names.false),
    )

pub returns : goal.returns
returns c = let a = c.args in c.loop-i.invariant.1 ∙ pairs_done a.list.now c.loop-i.i (omega arith)
