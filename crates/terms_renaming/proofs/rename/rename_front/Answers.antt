use mathlib.Core.Path.{sym, ◌∙◌}
use Prim.Native.Nat.{◌+◌}
use native.Mathlib.Omega.{arith}
use lib.ListN.{length}
use borrow.Author.Tests.{leb-true, leb-false}
use Rattle.terms_renaming.proofs.RenamingWalk.{none-past, none_short, none_full, front-renamed}
use Rattle.terms_renaming.proofs.rename.rename_front.Goals as goal

pub returns-then-src-at : goal.returns-then-src-at
returns-then-src-at c =
    let a = c.args in
    (none-past a.src.now a.at a.arities.now a.out.now a.put c.if-src-at.true)

pub returns-then-not-room : goal.returns-then-not-room
returns-then-not-room c =
    let a = c.args in
    (none_short a.src.now a.at a.arities.now a.out.now a.put c.shape_at-h.result
    c.shape_at-h.ensures c.if-src-at.false (leb-false _ _ (sym c.room.ensures ∙ c.if-not-room.true)))

pub returns-then-not-room-2 : goal.returns-then-not-room-2
returns-then-not-room-2 c =
    let a = c.args in
    (none_full a.src.now a.at a.arities.now a.out.now a.put c.shape_at-h.result
    c.shape_at-h.ensures (leb-false _ _ (sym c.room-2.ensures ∙ c.if-not-room-2.true)))

pub copy_few-requires : goal.copy_few-requires
copy_few-requires c =
    let a = c.args in
    let h = c.shape_at-h.result in
    let s = leb-true (a.at + (h.fixed + h.names)) (length a.src.now) (sym c.room.ensures ∙ c.if-not-room.false) in
    let o = leb-true (a.put + (h.fixed + h.names)) (length a.out.now) (sym c.room-2.ensures ∙ c.if-not-room-2.false) in
    omega arith

pub overflow_add-put : goal.overflow_add-put
overflow_add-put c =
    let a = c.args in
    let h = c.shape_at-h.result in
    let s = leb-true (a.at + (h.fixed + h.names)) (length a.src.now) (sym
    c.room.ensures ∙ c.if-not-room.false) in
    let o = leb-true (a.put + (h.fixed + h.names)) (length a.out.now) (sym c.room-2.ensures
    ∙ c.if-not-room-2.false) in
    omega arith

pub rename_bytes-requires : goal.rename_bytes-requires
rename_bytes-requires c =
    let a = c.args in
    let h = c.shape_at-h.result in
    let s = leb-true (a.at + (h.fixed + h.names)) (length a.src.now) (sym c.room.ensures ∙ c.if-not-room.false) in
    let o = leb-true (a.put + (h.fixed + h.names)) (length a.out.now) (sym c.room-2.ensures ∙ c.if-not-room-2.false) in
    omega (arith, c.copy_few.auto.out)

pub returns : goal.returns
returns c =
    let a = c.args in
    let h = c.shape_at-h.result in
    let s = leb-true (a.at + (h.fixed + h.names)) (length a.src.now) (sym c.room.ensures ∙ c.if-not-room.false) in
    let o = leb-true (a.put + (h.fixed + h.names)) (length a.out.now) (sym c.room-2.ensures ∙ c.if-not-room-2.false) in
    front-renamed a.src.now a.at a.arities.now a.inner a.table.now a.out.now a.put h _ _ c.shape_at-h.ensures s o
    c.copy_few.ensures c.rename_bytes.ensures
