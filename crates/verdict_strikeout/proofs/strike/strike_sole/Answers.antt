use Rattle.verdict_strikeout.proofs.StrikeLaws.{sole_kept, sole_gone}
use Rattle.verdict_strikeout.proofs.strike.strike_sole.Goals as goal

pub returns-then-not-sole_struck : goal.returns-then-not-sole_struck
returns-then-not-sole_struck c = sole_kept _ _ _ _ c.sole_struck.ensures (c.if-not-sole_struck.true)

pub returns : goal.returns
returns c =
    rw c.strike.ensures (sole_gone _ _ _ _ c.sole_struck.ensures (c.if-not-sole_struck.false))
