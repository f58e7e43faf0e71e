use mathlib.Core.Path.{◌≡◌, sym, ◌∙◌}
use native.Mathlib.Omega.{arith}
use Prim.Native.Nat.{ℕ, ◌+◌}
use lib.ListN.{length}
use borrow.Author.Tests.{leb-true}
use borrow.Author.Rules.{rules}
use Rattle.steps_equal_branches.proofs.same.same_front.Goals as goal

pub returns-then-not-room : goal.returns-then-not-room
returns-then-not-room c = λ e. let z : ◌≡◌ {A = ℕ} 0 1 = cc in absurd (omega arith)

pub alike-requires : goal.alike-requires
alike-requires c =
    let a = c.args in
    let r = leb-true (a.at + (a.fixed + a.names)) (length a.src.now) (sym c.room.ensures ∙ c.if-not-room.false) in
    (omega arith, omega arith)

pub returns-then-not-alike : goal.returns-then-not-alike
returns-then-not-alike c = λ e. let z : ◌≡◌ {A = ℕ} 0 1 = cc in absurd (omega arith)

pub overflow_add-p : goal.overflow_add-p
overflow_add-p c =
    let a = c.args in
    let r = leb-true (a.at + (a.fixed + a.names)) (length a.src.now) (sym c.room.ensures ∙ c.if-not-room.false) in
    omega arith

pub overflow_add-at : goal.overflow_add-at
overflow_add-at c =
    let a = c.args in
    let r = leb-true (a.at + (a.fixed + a.names)) (length a.src.now) (sym c.room.ensures ∙ c.if-not-room.false) in
    omega arith

pub same_names-requires : goal.same_names-requires
same_names-requires c =
    let a = c.args in
    let r = leb-true (a.at + (a.fixed + a.names)) (length a.src.now) (sym c.room.ensures ∙ c.if-not-room.false) in
    (omega arith, omega arith, search rules, search rules)

pub returns : goal.returns
returns c =
    let a = c.args in
    let r = leb-true (a.at + (a.fixed + a.names)) (length a.src.now) (sym c.room.ensures ∙ c.if-not-room.false) in
    λ e. record {
      inside = r;
      bytes = c.alike.ensures.0 (c.if-not-alike.false);
      names_are = c.same_names.ensures e;
    }
