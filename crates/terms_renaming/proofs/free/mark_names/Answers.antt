use mathlib.Core.Path.{refl, ap, ◌∙◌}
use native.Mathlib.Omega.{arith}
use lib.Seq.{take_all}
use Rattle.terms_renaming.specs.FreeFlags.{marks}
use Rattle.terms_renaming.proofs.FreeMarks.{marks-more}
use Rattle.terms_renaming.proofs.free.mark_names.Goals as goal

pub loop-x-init : goal.loop-x-init
unfolding marks
loop-x-init c = refl

pub loop-x-preserved : goal.loop-x-preserved
loop-x-preserved c = c.mark.ensures ∙ rw c.loop-x.invariant (marks-more c.args.flags.now c.args.names.now c.loop-x.x-index c.loop-x-test.true)

pub returns : goal.returns
returns c =
    let l = c.loop-x in
    l.invariant ∙ ap (marks c.args.flags.now) (take_all l.x-index c.args.names.now (omega (arith, c.loop-x-test.false)))
