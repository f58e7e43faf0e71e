use mathlib.Core.Path.{sym, ◌∙◌}
use Prim.Native.Nat.{◌+◌}
use native.Mathlib.Omega.{arith}
use lib.ListN.{length}
use borrow.Author.Tests.{leb-true, leb-false}
use Rattle.terms_converting.proofs.FrontLaws.{run_short, plain_full, plain_run}
use Rattle.terms_converting.proofs.term.plain_front.Goals as goal

-- src/term.rt:24:9
pub returns-then-not-room : goal.returns-then-not-room
returns-then-not-room c =
    let a = c.args in
    run_short a.src.now a.at a.out.now a.to c.requires.0 _ _ (leb-false _ _ (sym c.room.ensures ∙ c.if-not-room.true))

-- src/term.rt:27:9
pub returns-then-not-room-2 : goal.returns-then-not-room-2
returns-then-not-room-2 c =
    let a = c.args in
    let s = leb-true (a.at + a.n) (length a.src.now) (sym c.room.ensures ∙ c.if-not-room.false) in
    let o = leb-false (a.to + a.n) (length a.out.now) (sym c.room-2.ensures ∙ c.if-not-room-2.true) in
    plain_full a.src.now a.at a.out.now a.to c.requires.0 a.n s o

-- src/term.rt:29:5
pub copy-requires : goal.copy-requires
copy-requires c =
    let a = c.args in
    let s = leb-true (a.at + a.n) (length a.src.now) (sym c.room.ensures ∙ c.if-not-room.false) in
    let o = leb-true (a.to + a.n) (length a.out.now) (sym c.room-2.ensures ∙ c.if-not-room-2.false) in
    (s, o)

-- src/term.rt:30:30
pub overflow_add-result-2 : goal.overflow_add-result-2
overflow_add-result-2 c =
    let a = c.args in
    let s = leb-true (a.at + a.n) (length a.src.now) (sym c.room.ensures ∙ c.if-not-room.false) in
    let o = leb-true (a.to + a.n) (length a.out.now) (sym c.room-2.ensures ∙ c.if-not-room-2.false) in
    omega arith

-- src/term.rt:19:1
pub returns : goal.returns
returns c =
    let a = c.args in
    let s = leb-true (a.at + a.n) (length a.src.now) (sym c.room.ensures ∙ c.if-not-room.false) in
    let o = leb-true (a.to + a.n) (length a.out.now) (sym c.room-2.ensures ∙ c.if-not-room-2.false) in
    plain_run a.src.now a.at a.out.now a.to a.n _ s c.copy.ensures
