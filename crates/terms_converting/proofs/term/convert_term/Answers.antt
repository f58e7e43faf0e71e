use mathlib.Core.Path.{refl, ◌∙◌}
use native.Mathlib.Omega.{arith}
use Rattle.terms_converting.proofs.ConvertLaws.{converting_start, converting_again, converting_done}
use Rattle.terms_converting.proofs.term.convert_term.Goals as goal

pub loop-at-init : goal.loop-at-init
loop-at-init c = (refl, converting_start _ _ _ _ _)

pub convert_front-c-requires : goal.convert_front-c-requires
convert_front-c-requires c = c.loop-at-test.true

pub loop-at-smaller : goal.loop-at-smaller
loop-at-smaller c = omega (arith, c.convert_front-c.ensures.on, c.convert_front-c.ensures.inside)

pub loop-at-preserved : goal.loop-at-preserved
loop-at-preserved c =
    let a = c.args in
    let l = c.loop-at in (
      c.convert_front-c.auto.out ∙ l.invariant.0,
      converting_again a.src.now a.arities.now a.counted a.out.now a.put l.out l.at l.to l.invariant.0 l.invariant.1
          c.loop-at-test.true c.convert_front-c.result _ c.convert_front-c.ensures,
    )

pub returns : goal.returns
returns c =
    let a = c.args in
    converting_done a.src.now a.arities.now a.counted a.out.now a.put c.loop-at.out c.loop-at.at c.loop-at.to
    c.loop-at.invariant.0 c.loop-at.invariant.1 c.loop-at-test.false
