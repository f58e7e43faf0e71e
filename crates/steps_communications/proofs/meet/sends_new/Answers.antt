use borrow.Author.Tests.{eqb-true}
use lib.Dec.{eqb}
use mathlib.Core.Bool.{Bool, true, false}
use mathlib.Core.List.{List}
use mathlib.Core.Path.{◌≡◌, refl}
use Prim.Native.Nat.{ℕ}
use Rattle.steps_splicing.specs.declared.locate.Located.{Located}
use Rattle.steps_communications.specs.Met.{SendsNewIs}
use Rattle.steps_communications.proofs.CloseLaws.{sends_new, sends_unknown}
use Rattle.steps_communications.proofs.meet.sends_new.Goals as goal

by_kind : (question part : List ℕ) (l : Located) (k : ℕ) → (k ≡ 3 → SendsNewIs question part l true) → SendsNewIs question part l (eqb k 3)
by_kind question part l k f = go (eqb k 3) refl
  where
    go : (b : Bool) → eqb k 3 ≡ b → SendsNewIs question part l b
    go true e = f (eqb-true k 3 e)
    go false e = sends_unknown question part l

pub returns : goal.returns
returns c =
    let v = c.args in
    by_kind v.question.now v.part.now v.component c.pass-passed.result.kind
    (λ e. sends_new v.question.now v.part.now v.component c.pass-passed.result c.pass-passed.ensures e)
