use mathlib.Core.Path.{sym, ap, ◌∙◌}
use mathlib.Core.Bool.{true, false}
use Prim.Native.Nat.{ℕ}
use lib.ListN.{get_or}
use Rattle.terms_converting.proofs.FrontLaws.{plain_front_is, down_front_is, up_front_is, counted_is}
use Rattle.terms_converting.proofs.term.convert_front.Goals as goal

-- src/term.rt:89:13
pub returns-then-counted : goal.returns-then-counted
returns-then-counted c =
    let a = c.args in
    let k = c.get-count.ensures ∙ ap (λ (j : ℕ). get_or a.arities.now j 0) c.get-then-get-eq-CALL.ensures in
    counted_is a.counted true c.if-counted.true a.src.now a.at a.arities.now a.out.now a.to c.call_down.result _
    (down_front_is a.src.now a.at c.requires a.arities.now a.out.now a.to c.call_down.result _ _ k c.call_down.ensures
    (sym c.get.ensures ∙ c.if-get-eq-CALL.true))

-- src/term.rt:91:9
pub returns-then-get-eq-CALL : goal.returns-then-get-eq-CALL
returns-then-get-eq-CALL c =
    let a = c.args in
    let k = c.get-count.ensures ∙ ap (λ (j : ℕ). get_or a.arities.now j 0) c.get-then-get-eq-CALL.ensures in
    counted_is a.counted false c.if-counted.false a.src.now a.at a.arities.now a.out.now a.to c.call_up.result _ (up_front_is
    a.src.now a.at c.requires a.arities.now a.out.now a.to c.call_up.result _ _ k c.call_up.ensures (sym
    c.get.ensures ∙ c.if-get-eq-CALL.true))

-- src/term.rt:75:1
pub returns : goal.returns
returns c =
    let a = c.args in
    plain_front_is a.src.now a.at c.requires a.arities.now a.counted a.out.now a.to c.plain_front.result _
    c.shape_at-h.result c.shape_at-h.ensures (λ e. c.if-get-eq-CALL.false (c.get.ensures ∙ e)) c.plain_front.ensures
