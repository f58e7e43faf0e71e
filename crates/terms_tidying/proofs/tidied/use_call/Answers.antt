use mathlib.Core.Path.{◌≡◌, sym, ap, subst, ◌∙◌}
use Prim.Native.Nat.{ℕ, ◌+◌, ◌-◌, ◌<◌}
use native.Mathlib.Omega.{arith}
use lib.ListN.{length, get_or, take, drop}
use borrow.Author.Tests.{leb-true, leb-false}
use Rattle.terms_tidying.specs.TidiedTerms.{KeepsBytes}
use Rattle.terms_tidying.proofs.TidiedWalk.{call_none, call-used}
use borrow.Author.Rules.{rules}
use Rattle.terms_tidying.proofs.tidied.use_call.Goals as goal

-- src/tidied.rt:72:9
pub returns-then-not-room : goal.returns-then-not-room
returns-then-not-room c =
    let a = c.args in let e : c.get-n.result ≡ get_or
    a.arities.now (get_or a.src.now (a.at + 1) 0) 0 = c.get-n.ensures ∙ ap (λ (k : ℕ). get_or a.arities.now k 0)
    c.get-k.ensures in let small : c.get-n.result < 256 = search rules in
    call_none a.src.now a.at a.arities.now c.requires.0 c.requires.1 c.get-n.result e small (leb-false _ _ (sym c.room.ensures ∙ c.if-not-room.true))

-- src/tidied.rt:65:1
pub returns : goal.returns
returns c =
    let a = c.args in let e :
    c.get-n.result ≡ get_or a.arities.now (get_or a.src.now (a.at + 1) 0) 0 =
    c.get-n.ensures ∙ ap (λ (k : ℕ). get_or a.arities.now k 0)
    c.get-k.ensures in let small :
    c.get-n.result < 256 = search rules in
    let m : a.at + (2 + c.get-n.result) - (a.at + 2) ≡ c.get-n.result = omega arith in
    call-used a.src.now a.at a.arities.now
    c.requires.0
    c.requires.1
    c.get-n.result e small a.depth a.waits.now _ c.front.result
    c.front.ensures (subst (λ (k : ℕ). KeepsBytes a.depth (take k (drop (a.at + 2) a.src.now)) a.waits.now c.use_names.new.waits) m c.use_names.ensures)
