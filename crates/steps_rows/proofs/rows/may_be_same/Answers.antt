use mathlib.Core.Path.{◌≡◌, sym, ◌∙◌}
use borrow.Author.Tests.{not-true}
use native.Mathlib.Omega.{arith}
use Prim.Native.Nat.{ℕ}
use Rattle.steps_equal_branches.proofs.ChoiceLaws.{other_trivial}
use Rattle.steps_rows.proofs.rows.may_be_same.Goals as goal

pub bounds-src-p : goal.bounds-src-p
bounds-src-p c = omega (arith, c.requires)

pub returns-then-src-p : goal.returns-then-src-p
returns-then-src-p c = λ e. let z : ◌≡◌ {A = ℕ} 0 1 = cc in absurd (omega arith)

pub begin_alike-requires : goal.begin_alike-requires
begin_alike-requires c =
    (omega (arith, c.requires), omega (arith, c.requires))

pub returns-then-t-eq-OUTPUT : goal.returns-then-t-eq-OUTPUT
returns-then-t-eq-OUTPUT c =
    let v = c.args in
    let f = c.if-src-p.false in
    let t = c.if-t-eq-OUTPUT.true in
    λ e. (f, other_trivial v.src.now v.args.now v.inner v.depth v.p (λ z. omega arith))

pub begin_alike-requires-then-t-lt-MATCH : goal.begin_alike-requires-then-t-lt-MATCH
begin_alike-requires-then-t-lt-MATCH c =
    (omega (arith, c.requires), omega (arith, c.requires))

pub returns-then-t-lt-MATCH : goal.returns-then-t-lt-MATCH
returns-then-t-lt-MATCH c =
    let v = c.args in
    let f = c.if-src-p.false in
    let t = c.if-t-lt-MATCH.true in
    λ e. (f, other_trivial v.src.now v.args.now v.inner v.depth v.p (λ z. omega arith))

pub is_trivial-requires : goal.is_trivial-requires
is_trivial-requires c =
    (omega (arith, c.requires), c.requires.2, c.requires.3)

pub returns : goal.returns
returns c = λ e. (c.if-src-p.false, sym c.is_trivial.ensures ∙ not-true _ e)
