use mathlib.Core.Path.{refl, ◌∙◌}
use native.Mathlib.Omega.{arith}
use Rattle.field_renewal.proofs.RenewingLaws.{renewing_start, renewing_next, renewing_done}
use borrow.Author.Rules.{rules}
use Rattle.field_renewal.proofs.renewing.renew_steps.Goals as goal

pub loop-i-init : goal.loop-i-init
loop-i-init c =
    let v = c.args in
    (search rules, refl, renewing_start v.src.now v.n v.arities.now v.y v.x v.area.now)

pub renew_step-requires : goal.renew_step-requires
renew_step-requires c =
    (c.requires.0, omega arith, omega (arith, c.loop-i.invariant.1))

pub loop-i-preserved : goal.loop-i-preserved
loop-i-preserved c = (
  search rules,
  c.renew_step.auto.area ∙ c.loop-i.invariant.1,
  renewing_next _ _ _ _ _ _ (omega arith) _ c.replacing-table.ensures _ _ (omega (
    arith,
    c.loop-i.invariant.1,
  )) c.renew_step.ensures
      c.loop-i.invariant.2,
)

pub returns : goal.returns
returns c = renewing_done _ _ _ _ _ _ c.loop-i.invariant.0 (omega arith) _ c.loop-i.invariant.2
