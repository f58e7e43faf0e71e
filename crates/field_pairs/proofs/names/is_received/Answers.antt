use mathlib.Core.Path.{sym, ◌∙◌}
use native.Mathlib.Omega.{arith}
use Rattle.field_pairs.proofs.ReceivedNames.{received_object, received_none, received_free}
use Rattle.field_pairs.proofs.names.is_received.Goals as goal

pub returns-then-get-name : goal.returns-then-get-name
returns-then-get-name c = received_object _ _ _ _ (omega arith) (sym c.get.ensures ∙ c.if-get-name.true)

pub returns-then-get-ne1 : goal.returns-then-get-ne1
returns-then-get-ne1 c =
    received_none _ _ _ _ (omega arith) (λ q. c.if-get-name.false (c.get.ensures ∙ q)) (λ q. c.if-get-ne1.true (c.get-2.ensures ∙ q))

pub returns : goal.returns
returns c =
    rw c.get-3.ensures (received_free _ _ _ _ (omega arith) (λ q. c.if-get-name.false (c.get.ensures ∙ q))
    (sym c.get-2.ensures ∙ c.if-get-ne1.false))
