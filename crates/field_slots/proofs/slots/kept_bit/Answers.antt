use mathlib.Core.Path.{sym, ◌∙◌}
use Rattle.field_slots.proofs.KeptFlags.{bit_off, bit-first, bit-second, bit_on}
use Rattle.field_slots.proofs.slots.kept_bit.Goals as goal

pub returns-then-flags-i-eq0 : goal.returns-then-flags-i-eq0
returns-then-flags-i-eq0 c = bit_off _ _ _ c.requires.0 c.if-flags-i-eq0.true

pub returns-then-get-eq0 : goal.returns-then-get-eq0
returns-then-get-eq0 c =
    bit-first _ _ _ c.requires.0 _ c.pair_of-p.ensures.first (sym c.get.ensures ∙ c.if-get-eq0.true)

pub returns-then-get-eq0-2 : goal.returns-then-get-eq0-2
returns-then-get-eq0-2 c =
    bit-second _ _ _ c.requires.0 _ c.pair_of-p.ensures.first _ c.pair_of-p.ensures.second (sym c.get-2.ensures ∙ c.if-get-eq0-2.true)

pub returns : goal.returns
returns c =
    bit_on _ _ _ c.requires.0 _ c.pair_of-p.ensures.first _ c.pair_of-p.ensures.second c.if-flags-i-eq0.false (λ z. c.if-get-eq0.false
    (c.get.ensures ∙ z)) (λ z. c.if-get-eq0-2.false (c.get-2.ensures ∙ z))
