use mathlib.Core.Path.{◌≡◌, sym, ap, ◌∙◌}
use mathlib.Core.List.{List}
use Prim.Native.Nat.{ℕ, ◌+◌, ◌-◌}
use native.Mathlib.Omega.{arith}
use lib.ListN.{length, take, drop}
use borrow.Author.Tests.{leb-true, leb-false}
use Rattle.calculus.specs.Distinction.{among}
use Rattle.terms_restrictions.proofs.UnusedWalk.{none-past, none_short, front_nowhere, front_used, front_unused}
use Rattle.terms_restrictions.proofs.unused.unused_front.Goals as goal

pub returns-then-src-at : goal.returns-then-src-at
returns-then-src-at c =
    let a = c.args in
    front_nowhere a.src.now a.at a.arities.now a.inner (none-past a.src.now a.at a.arities.now c.if-src-at.true)

pub returns-then-not-room : goal.returns-then-not-room
returns-then-not-room c =
    let a = c.args in
    front_nowhere a.src.now a.at a.arities.now a.inner (none_short a.src.now a.at a.arities.now c.shape_at-h.result c.shape_at-h.ensures
    c.if-src-at.false (leb-false _ _ (sym c.room.ensures ∙ c.if-not-room.true)))

pub returns-then-has_byte : goal.returns-then-has_byte
returns-then-has_byte c =
    let a = c.args in
    let h = c.shape_at-h.result in
    let s = leb-true (a.at + (h.fixed + h.names)) (length a.src.now) (sym c.room.ensures ∙ c.if-not-room.false) in
    let n : a.at + (h.fixed + h.names) - (a.at + h.fixed) ≡ h.names = omega arith in
    front_used a.src.now a.at a.arities.now a.inner h c.shape_at-h.ensures s (sym c.if-has_byte.true ∙ c.has_byte.ensures
    ∙ ap (λ (k : ℕ). among (take k (drop (a.at + h.fixed) a.src.now)) (128 + a.inner)) n)

pub returns : goal.returns
returns c =
    let a = c.args in
    let h = c.shape_at-h.result in
    let s = leb-true (a.at + (h.fixed + h.names)) (length a.src.now) (sym c.room.ensures ∙ c.if-not-room.false) in
    let n : a.at + (h.fixed + h.names) - (a.at + h.fixed) ≡ h.names = omega arith in
    front_unused a.src.now a.at a.arities.now a.inner h c.shape_at-h.ensures s (sym c.if-has_byte.false ∙ c.has_byte.ensures
    ∙ ap (λ (k : ℕ). among (take k (drop (a.at + h.fixed) a.src.now)) (128 + a.inner)) n)
