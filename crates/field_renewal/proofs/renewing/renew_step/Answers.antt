use Rattle.field_renewal.proofs.RenewingLaws.{step_stays, step-renewed}
use Rattle.field_renewal.proofs.renewing.renew_step.Goals as goal

pub returns-then-not-binds : goal.returns-then-not-binds
returns-then-not-binds c =
    step_stays _ _ _ _ _ _ _ c.requires.0 c.requires.2 _ c.copy.ensures _ c.binds.ensures (c.if-not-binds.true)

pub returns : goal.returns
returns c =
    step-renewed _ _ _ _ _ _ _ c.requires.0 c.requires.2 _ c.copy.ensures _ c.binds.ensures (c.if-not-binds.false) _ _
    c.rename.ensures
