use mathlib.Core.Path.{sym, ◌∙◌}
use Prim.Native.Nat.{◌+◌}
use native.Mathlib.Omega.{arith}
use lib.ListN.{length}
use borrow.Author.Tests.{leb-true, leb-false}
use Rattle.terms_tidying.proofs.TidyWalk.{none_full, front-copied}
use Rattle.terms_restrictions.proofs.UnusedWalk.{none-past, none_short}
use Rattle.terms_tidying.proofs.tidy.copy_front.Goals as goal

pub returns-then-src-at : goal.returns-then-src-at
returns-then-src-at c =
    let a = c.args in
    (λ free d P rest scope e room. none-past a.src.now a.at
    a.arities.now c.if-src-at.true free d P rest scope e)

pub returns-then-not-room : goal.returns-then-not-room
returns-then-not-room c =
    let a = c.args in
    let h = c.shape_at-h.result in
    (λ free d P rest scope e room. none_short a.src.now a.at
    a.arities.now h c.shape_at-h.ensures c.if-src-at.false (leb-false _ _ (sym c.room.ensures ∙ c.if-not-room.true)) free d P
    rest scope e)

pub returns-then-not-room-2 : goal.returns-then-not-room-2
returns-then-not-room-2 c =
    let a = c.args in
    let h = c.shape_at-h.result in
    (none_full a.src.now a.at a.arities.now a.out.now
    a.put h c.shape_at-h.ensures (leb-false _ _ (sym c.room-2.ensures ∙ c.if-not-room-2.true)))

pub copy-requires : goal.copy-requires
copy-requires c =
    let a = c.args in
    let h = c.shape_at-h.result in
    let s = leb-true (a.at + (h.fixed + h.names)) (length a.src.now) (sym c.room.ensures ∙ c.if-not-room.false) in
    let o = leb-true (a.put + (h.fixed + h.names)) (length a.out.now) (sym c.room-2.ensures ∙ c.if-not-room-2.false) in
    omega arith

pub returns : goal.returns
returns c =
    let a = c.args in
    let h = c.shape_at-h.result in
    let s = leb-true (a.at + (h.fixed + h.names)) (length a.src.now) (sym c.room.ensures ∙ c.if-not-room.false) in
    let o = leb-true (a.put + (h.fixed + h.names)) (length a.out.now) (sym c.room-2.ensures ∙ c.if-not-room-2.false) in
    front-copied a.src.now a.at a.arities.now a.out.now a.put h _ c.shape_at-h.ensures s o c.copy.ensures
