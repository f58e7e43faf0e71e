use mathlib.Core.Path.{refl, ◌∙◌}
use Prim.Native.Nat.{ℕ}
use native.Mathlib.Omega.{arith}
use lib.ListN.{length-set}
use Rattle.terms_tidying.proofs.TidiedWalk.{walking_start, walking_again, walking_done, untold}
use Rattle.terms_tidying.proofs.tidied.all_used.Goals as goal

-- src/tidied.rt:123:5
pub loop-at-init : goal.loop-at-init
loop-at-init c = (refl, refl, omega arith, walking_start _ _ _ _)

-- src/tidied.rt:125:13
pub returns-then-depth-ge-BINDERS : goal.returns-then-depth-ge-BINDERS
returns-then-depth-ge-BINDERS c = untold _ _

-- src/tidied.rt:130:13
pub returns-in_default : goal.returns-in_default
returns-in_default c = untold _ _

-- src/tidied.rt:133:13
pub returns-then-waits-depth-eq1 : goal.returns-then-waits-depth-eq1
returns-then-waits-depth-eq1 c = untold _ _

-- src/tidied.rt:123:5
pub loop-at-preserved : goal.loop-at-preserved
loop-at-preserved c =
    let a = c.args in
    let v = c.loop-at in
    let l = c.next_front.auto.waits ∙ v.invariant.0 in (
      length-set {A = ℕ} c.next_front.new.waits v.depth c.waiting.result ∙ l,
      c.follow-p.auto.depths ∙ v.invariant.1,
      omega
          (arith, c.follow-p.ensures.few, v.invariant.2, c.in-Some.ensures.some),
      walking_again a.src.now a.arities.now v.at v.depth v.pending
          v.depths v.waits c.loop-at-test.true v.invariant.3 c.in-Some.h _ c.in-Some.ensures (omega (arith, l, c.if-depth-ge-BINDERS.false))
          c.if-waits-depth-eq1.false c.follow-p.result _ c.follow-p.ensures (omega (arith, v.invariant.1, v.invariant.2, c.loop-at-test.true, c.requires))
          c.waiting.result c.waiting.ensures,
    )

-- src/tidied.rt:114:1
pub returns : goal.returns
returns c =
    let a = c.args in
    let v = c.loop-at in
    walking_done a.src.now a.arities.now v.at v.depth v.pending v.depths v.waits c.occurs.result
    c.loop-at-test.false v.invariant.3 c.occurs.ensures
