use mathlib.Core.Path.{sym, ◌∙◌}
use native.Mathlib.Omega.{arith}
use mathlib.Core.Bool.{false≢true}
use Rattle.terms_restrictions.proofs.UnusedWalk.{binds_past, binds_other, binds_found}
use Rattle.terms_restrictions.proofs.unused.binds_nothing.Goals as goal

pub returns-then-src-at : goal.returns-then-src-at
returns-then-src-at c =
    let a = c.args in
    record { inside = λ q. absurd (false≢true q); is = binds_past a.src.now a.at a.arities.now c.if-src-at.true }

pub returns-then-get-ne-RESTRICTION : goal.returns-then-get-ne-RESTRICTION
returns-then-get-ne-RESTRICTION c =
    let a = c.args in
    record {
      inside = λ q. absurd (false≢true q);
      is = binds_other a.src.now a.at a.arities.now (λ q. c.if-get-ne-RESTRICTION.true (c.get.ensures ∙ q));
    }

pub returns : goal.returns
returns c =
    let a = c.args in
    record {
      inside = λ q. omega (arith, c.if-src-at.false);
      is = rw c.is_some.ensures (binds_found a.src.now a.at a.arities.now (sym c.get.ensures ∙ c.if-get-ne-RESTRICTION.false) c.unused_to.result c.unused_to.ensures.is);
    }
