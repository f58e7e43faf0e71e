use mathlib.Core.Path.{refl, sym, ◌∙◌}
use Prim.Native.Nat.{◌+◌}
use native.Mathlib.Omega.{arith}
use lib.ListN.{length, length-set}
use borrow.Author.Tests.{leb-true, leb-false}
use Rattle.terms_converting.proofs.FrontLaws.{run_short, up_full, up_run}
use Rattle.terms_converting.proofs.term.call_up.Goals as goal

-- src/term.rt:60:9
pub returns-then-not-room : goal.returns-then-not-room
returns-then-not-room c =
    let a = c.args in
    run_short a.src.now a.at a.out.now a.to c.requires _ _ (leb-false _ _ (sym c.room.ensures ∙ c.if-not-room.true))

-- src/term.rt:63:9
pub returns-then-not-room-2 : goal.returns-then-not-room-2
returns-then-not-room-2 c =
    let a = c.args in
    let s = leb-true (a.at + (2 + a.count)) (length a.src.now) (sym c.room.ensures ∙ c.if-not-room.false) in
    let o = leb-false (a.to + (3 + a.count)) (length a.out.now) (sym c.room-2.ensures ∙ c.if-not-room-2.true) in
    up_full a.src.now a.at a.out.now a.to c.requires a.count s o

-- src/term.rt:65:5
pub copy-requires : goal.copy-requires
copy-requires c =
    let a = c.args in
    let s = leb-true (a.at + (2 + a.count)) (length a.src.now) (sym c.room.ensures ∙ c.if-not-room.false) in
    let o = leb-true (a.to + (3 + a.count)) (length a.out.now) (sym c.room-2.ensures ∙ c.if-not-room-2.false) in
    omega arith

-- src/term.rt:66:9
pub overflow_add-out : goal.overflow_add-out
overflow_add-out c =
    let a = c.args in
    let s = leb-true (a.at + (2 + a.count)) (length a.src.now) (sym c.room.ensures ∙ c.if-not-room.false) in
    let o = leb-true (a.to + (3 + a.count)) (length a.out.now) (sym c.room-2.ensures ∙ c.if-not-room-2.false) in
    omega arith

-- src/term.rt:66:5
pub bounds-out-to : goal.bounds-out-to
bounds-out-to c =
    let a = c.args in
    let s = leb-true (a.at + (2 + a.count)) (length a.src.now) (sym c.room.ensures ∙ c.if-not-room.false) in
    let o = leb-true (a.to + (3 + a.count)) (length a.out.now) (sym c.room-2.ensures ∙ c.if-not-room-2.false) in
    omega (arith, c.copy.auto.out)

-- src/term.rt:67:35
pub overflow_add-to : goal.overflow_add-to
overflow_add-to c =
    let a = c.args in
    let s = leb-true (a.at + (2 + a.count)) (length a.src.now) (sym c.room.ensures ∙ c.if-not-room.false) in
    let o = leb-true (a.to + (3 + a.count)) (length a.out.now) (sym c.room-2.ensures ∙ c.if-not-room-2.false) in
    omega arith

-- src/term.rt:67:5
pub copy-requires-2 : goal.copy-requires-2
copy-requires-2 c =
    let a = c.args in
    let s = leb-true (a.at + (2 + a.count)) (length a.src.now) (sym c.room.ensures ∙ c.if-not-room.false) in
    let o = leb-true (a.to + (3 + a.count)) (length a.out.now) (sym c.room-2.ensures ∙ c.if-not-room-2.false) in
    omega (arith, c.copy.auto.out, length-set c.copy.new.out (a.to + 2) a.count)

-- src/term.rt:70:13
pub overflow_add-result-4 : goal.overflow_add-result-4
overflow_add-result-4 c =
    let a = c.args in
    let s = leb-true (a.at + (2 + a.count)) (length a.src.now) (sym c.room.ensures ∙ c.if-not-room.false) in
    let o = leb-true (a.to + (3 + a.count)) (length a.out.now) (sym c.room-2.ensures ∙ c.if-not-room-2.false) in
    omega arith

-- src/term.rt:54:1
pub returns : goal.returns
returns c =
    let a = c.args in
    let s = leb-true (a.at + (2 + a.count)) (length a.src.now) (sym c.room.ensures ∙ c.if-not-room.false) in
    let o = leb-true (a.to + (3 + a.count)) (length a.out.now) (sym c.room-2.ensures ∙ c.if-not-room-2.false) in
    up_run a.src.now a.at a.out.now a.to a.count _ _ _ s c.copy.ensures refl c.copy-2.ensures
