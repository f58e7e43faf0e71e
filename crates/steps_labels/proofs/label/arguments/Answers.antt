use mathlib.Core.Path.{refl}
use native.Mathlib.Omega.{arith}
use borrow.Author.Rules.{rules}
use Rattle.terms_renaming.proofs.Filling.{fill_start, fill_step}
use Rattle.steps_labels.specs.LabelWalk.{ArgumentsIs}
use Rattle.steps_labels.proofs.label.arguments.Goals as goal

pub loop-j-init : goal.loop-j-init
loop-j-init c = (fill_start _ _, search rules, refl)

pub loop-j-preserved : goal.loop-j-preserved
loop-j-preserved c =
    let I = c.loop-j.invariant in (
      fill_step _ _ _ c.loop-j.j _ (omega (arith, I.2)) c.slot-v.ensures
          I.0,
      search rules,
      I.2,
    )

pub returns : goal.returns
unfolding ArgumentsIs
returns c = λ j h. c.loop-j.invariant.0.done j (omega arith)
