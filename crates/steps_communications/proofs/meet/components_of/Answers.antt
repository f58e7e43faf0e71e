use Rattle.steps_passing.proofs.TwoSides.{middle_past, middle_inside}
use native.Mathlib.Omega.{arith}
use Rattle.steps_communications.proofs.meet.components_of.Goals as goal

pub locate-right-requires : goal.locate-right-requires
locate-right-requires c =
    let v = c.args in
    let g = c.requires in (
      omega (
        arith,
        g.0.0,
        middle_past v.part.now v.tally.now g.2 v.node.at c.middle_of-middle.result c.middle_of-middle.ensures
            g.0.1,
      ),
      middle_inside v.part.now v.tally.now g.2 v.node.at c.middle_of-middle.result c.middle_of-middle.ensures g.0.1,
      g.1,
      g.2,
    )

pub returns : goal.returns
returns c =
    record { left = c.locate-left.ensures; middle = c.middle_of-middle.result; ends = c.middle_of-middle.ensures; right = c.locate-right.ensures }
