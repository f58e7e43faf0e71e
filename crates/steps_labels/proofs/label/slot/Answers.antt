use mathlib.Core.Path.{sym, ◌∙◌}
use Rattle.steps_labels.proofs.ArgumentSlots.{at_free, at_inner, at_parameter}
use Rattle.steps_labels.proofs.label.slot.Goals as goal

pub returns-then-b-lt128 : goal.returns-then-b-lt128
returns-then-b-lt128 c =
    let v = c.args in
    sym (at_free v.args.now v.inner v.depth v.b c.if-b-lt128.true)

pub returns-then-k-inner : goal.returns-then-k-inner
returns-then-k-inner c =
    let v = c.args in
    sym (at_inner v.args.now v.inner v.depth v.b c.if-b-lt128.false c.if-k-inner.true)

pub returns : goal.returns
returns c =
    let v = c.args in
    c.get.ensures ∙ sym (at_parameter v.args.now v.inner v.depth v.b c.if-b-lt128.false c.if-k-inner.false)
