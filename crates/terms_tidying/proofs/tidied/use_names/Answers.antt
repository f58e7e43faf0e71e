use mathlib.Core.Path.{refl, subst, ◌∙◌}
use mathlib.Core.List.{List}
use Prim.Native.Nat.{ℕ}
use native.Mathlib.Omega.{arith}
use lib.Seq.{take_all}
use Rattle.terms_tidying.specs.TidiedTerms.{KeepsBytes}
use Rattle.terms_tidying.proofs.TidiedWalk.{keeps_none, keeps_more}
use Rattle.terms_tidying.proofs.tidied.use_names.Goals as goal

pub loop-x-init : goal.loop-x-init
loop-x-init c = (refl, keeps_none _ _ _)

pub loop-x-preserved : goal.loop-x-preserved
loop-x-preserved c =
    let a = c.args in
    let v = c.loop-x.invariant in (
      c.use_name.auto.waits ∙ v.0,
      keeps_more a.names.now a.depth c.loop-x.x-index a.waits.now c.loop-x.waits _ c.loop-x-test.true v.1 c.use_name.ensures,
    )

pub returns : goal.returns
returns c =
    let a = c.args in
    subst (λ (xs : List ℕ). KeepsBytes a.depth xs a.waits.now c.loop-x.waits) (take_all c.loop-x.x-index a.names.now
    (omega (arith, c.loop-x-test.false))) c.loop-x.invariant.1
