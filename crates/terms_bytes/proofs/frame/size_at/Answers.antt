use mathlib.Core.Path.{◌≡◌, ap₂}
use Prim.Native.Nat.{ℕ, ◌+◌, ◌*◌}
use native.Mathlib.Omega.{arith}
use lib.ListN.{get_or, get_or-eq_default}
use borrow.Author.Rules.{rules}
use Rattle.terms_bytes.specs.FieldPlaces.{size_at}
use Rattle.terms_bytes.proofs.frame.size_at.Goals as goal

pub returns-then-question-at : goal.returns-then-question-at
unfolding size_at
returns-then-question-at c =
    let v = c.args in
    let s = v.question.now in
    let a : get_or s v.at 0 ≡ 0 = get_or-eq_default s 0 c.if-question-at.true in
    let b : get_or s (v.at + 1) 0 ≡ 0 = get_or-eq_default s 0 (omega arith) in
    (omega (arith, a, b), search rules)

pub returns : goal.returns
unfolding size_at
returns c = (ap₂ (λ (x y : ℕ). 256 * x + y) c.get-high.ensures c.get-low.ensures, search rules)
