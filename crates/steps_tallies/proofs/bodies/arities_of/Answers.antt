use mathlib.Core.Path.{sym, subst}
use Rattle.steps_tallies.specs.Bodies.{AritiesIs}
use Rattle.steps_tallies.proofs.BodyPlaces.{arities_are}
use Rattle.steps_tallies.proofs.bodies.arities_of.Goals as goal

pub returns : goal.returns
returns c =
    let s = c.args.question.now in
    subst (AritiesIs s) (sym c.arities.ensures) (arities_are s)
