use mathlib.Core.Bool.{Bool, ◌||◌}
use mathlib.Core.Path.{refl, ap, ◌∙◌}
use mathlib.Core.List.{List}
use Prim.Native.Nat.{ℕ}
use lib.ListN.{get_or}
use lib.Seq.{take_all}
use lib.Dec.{eqb}
use borrow.Author.Rules.{rules}
use Rattle.calculus.specs.Distinction.{among}
use Rattle.terms_restrictions.proofs.Mentions.{occurs_more}
use Rattle.terms_restrictions.proofs.occurs.occurs.Goals as goal

-- src/occurs.rt:11:5
pub loop-x-init : goal.loop-x-init
unfolding among
loop-x-init c = refl

-- src/occurs.rt:11:5
pub loop-x-preserved : goal.loop-x-preserved
loop-x-preserved c =
    let a = c.args in
    let l = c.loop-x in
    ap (λ (t : Bool). t || eqb (get_or a.src.now l.x-index 0) a.b) l.invariant ∙ occurs_more a.src.now l.x-index a.b c.loop-x-test.true

-- src/occurs.rt:6:1
pub returns : goal.returns
returns c =
    let a = c.args in let l = c.loop-x in l.invariant ∙ ap (λ (xs : List ℕ). among xs a.b) (take_all l.x-index a.src.now
    (search rules))
