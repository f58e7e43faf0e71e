use lib.ListN.{length}
use mathlib.Core.Path.{◌≡◌}
use native.Mathlib.Omega.{arith}
use borrow.Author.Rules.{rules}
use Rattle.steps_communications.proofs.meet.take_labelled.Goals as goal

pub take_met-requires : goal.take_met-requires
take_met-requires c =
    let g = c.requires in
    let l : length c.args.label.condition.class ≡ 256 = search rules in
    (g.0, g.1, omega (arith, l), g.2)

pub returns-clause-is : goal.returns-clause-is
returns-clause-is c = c.take_met.ensures.is
