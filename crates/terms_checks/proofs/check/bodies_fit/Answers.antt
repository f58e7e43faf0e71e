use mathlib.Core.Path.{◌≡◌, refl, sym, ap, ◌∙◌}
use Prim.Native.Nat.{◌+◌, ◌-◌}
use native.Mathlib.Omega.{arith}
use Rattle.terms.specs.Question.{fits}
use Rattle.terms_checks.proofs.CheckLaws.{sizes_fail, sizes_pass, sizes_done}
use Rattle.terms_checks.proofs.check.bodies_fit.Goals as goal

pub loop-i-init : goal.loop-i-init
loop-i-init c = let n : c.args.count - 0 ≡ c.args.count = omega arith in (omega arith, rw n refl)

pub returns-then-not-term_fits : goal.returns-then-not-term_fits
returns-then-not-term_fits c =
    let a = c.args in
    sym (c.loop-i.invariant.1 ∙ sizes_fail a.question.now c.loop-i.at (a.count - c.loop-i.i) (omega arith) (sym (ap fits
    c.field_at.ensures) ∙ sym c.term_fits.ensures ∙ c.if-not-term_fits.true))

pub loop-i-preserved : goal.loop-i-preserved
loop-i-preserved c =
    let a = c.args in
    let n : a.count - (c.loop-i.i + 1) ≡ a.count - c.loop-i.i - 1 = omega arith in (
      omega arith,
      rw (c.after_field-at.ensures, n) (c.loop-i.invariant.1 ∙ sizes_pass a.question.now c.loop-i.at (a.count - c.loop-i.i) (omega arith) (sym (ap fits
          c.field_at.ensures) ∙ sym c.term_fits.ensures ∙ c.if-not-term_fits.false)),
    )

pub returns : goal.returns
returns c =
    let a = c.args in
    sym (c.loop-i.invariant.1 ∙ sizes_done a.question.now c.loop-i.at (a.count - c.loop-i.i) (omega (arith, c.loop-i-test.false)))
