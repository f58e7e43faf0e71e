use mathlib.Core.Path.{ap, sym, ◌∙◌}
use native.Mathlib.Omega.{arith}
use Rattle.steps_communications.specs.Meeting.{sends_free}
use Rattle.steps_communications.proofs.meet.take_met.Goals as goal

pub sends_free-requires : goal.sends_free-requires
sends_free-requires c =
    let g = c.requires in
    omega (arith, g.0.1.0, g.1)

pub take_com-requires : goal.take_com-requires
take_com-requires c = (
  c.requires,
  ap (sends_free c.args.met.node.depth) (sym c.sender.ensures) ∙ sym c.sends_free.ensures ∙
      c.if-sends_free.true,
)

pub take_close-requires : goal.take_close-requires
take_close-requires c = (
  c.requires,
  ap (sends_free c.args.met.node.depth) (sym c.sender.ensures) ∙ sym c.sends_free.ensures ∙
      c.if-sends_free.false,
)
