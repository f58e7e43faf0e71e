use native.Mathlib.Omega.{arith}
use Prim.Native.Nat.{◌+◌}
use lib.ListN.{length}
use Rattle.std.proofs.lemmas.Option.{IfSome_then}
use Rattle.terms_restrictions.proofs.UnusedWalk.{unused_not, unused-none, unused_one, unused-first, unused_two}
use Rattle.terms_restrictions.specs.Unused.{UnusedToIs}
use Rattle.terms_restrictions.proofs.unused.+unused_to.Goals as goal

pub returns-in_err-h : goal.returns-in_err-h
returns-in_err-h t c =
    let a = c.args in
    rw c.from_residual.ensures (record { inside = tt; is = unused_not a.src.now a.at a.arities.now a.inner c.in_err-h.ensures })

pub returns-then-subterms-eq0 : goal.returns-then-subterms-eq0
returns-then-subterms-eq0 t c =
    let a = c.args in
    record { inside = (omega arith, c.in_ok-h.ensures.inside); is = unused-none a.src.now a.at a.arities.now a.inner c.in_ok-h.h c.in_ok-h.ensures c.if-subterms-eq0.true }

pub returns-in_err-e : goal.returns-in_err-e
returns-in_err-e t c =
    let a = c.args in
    rw c.from_residual-in_err-e.ensures (record { inside = tt; is = unused-first a.src.now a.at a.arities.now a.inner c.in_ok-h.h c.in_ok-h.ensures c.if-subterms-eq0.false c.in_err-e.ensures.is })

pub returns-then-subterms-eq1 : goal.returns-then-subterms-eq1
returns-then-subterms-eq1 t c =
    let a = c.args in
    let R = c.in_ok-e.ensures in
    record { inside = (omega (arith, R.inside), R.inside.1); is = unused_one a.src.now a.at a.arities.now a.inner c.in_ok-h.h c.in_ok-h.ensures c.in_ok-e.e R.is c.if-subterms-eq1.true }

pub returns : goal.returns
returns t c =
    let a = c.args in
    let R = c.in_ok-e.ensures in
    let S = c.unused_to-2.ensures in
    record {
      inside = IfSome_then c.unused_to-2.result S.inside (λ e w. (omega (arith, R.inside, w.0), w.1));
      is = unused_two a.src.now a.at a.arities.now a.inner c.in_ok-h.h c.in_ok-h.ensures c.in_ok-e.e R.is c.if-subterms-eq0.false c.if-subterms-eq1.false c.unused_to-2.result S.is;
    }
