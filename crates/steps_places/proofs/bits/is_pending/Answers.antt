use Rattle.steps_places.proofs.BitLaws.{pending_there, pending_absent, pending_done}
use mathlib.Core.Path.{sym, ◌∙◌}
use Rattle.steps_places.proofs.bits.is_pending.Goals as goal

pub returns-then-bit_at-ne1 : goal.returns-then-bit_at-ne1
returns-then-bit_at-ne1 c =
    let v = c.args in
    pending_absent v.set v.done v.j (λ e. c.if-bit_at-ne1.true (c.bit_at.ensures ∙ e))

pub returns-then-bit_at-eq1 : goal.returns-then-bit_at-eq1
returns-then-bit_at-eq1 c =
    let v = c.args in
    pending_done v.set v.done v.j (sym c.bit_at-2.ensures ∙ c.if-bit_at-eq1.true)

pub returns : goal.returns
returns c =
    let v = c.args in
    pending_there v.set v.done v.j (sym c.bit_at.ensures ∙ c.if-bit_at-ne1.false) (λ e. c.if-bit_at-eq1.false (c.bit_at-2.ensures
    ∙ e))
