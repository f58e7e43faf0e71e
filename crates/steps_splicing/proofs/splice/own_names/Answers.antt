use mathlib.Core.Path.{refl}
use native.Mathlib.Omega.{arith}
use borrow.Author.Rules.{rules}
use Rattle.terms_renaming.proofs.Filling.{fill_start, fill_step}
use Rattle.steps_conditions.specs.Names.{OwnNames}
use Rattle.steps_splicing.proofs.splice.own_names.Goals as goal

pub loop-i-init : goal.loop-i-init
loop-i-init c = (fill_start _ _, search rules, refl)

pub loop-i-preserved : goal.loop-i-preserved
loop-i-preserved c = (fill_step _ _ _ _ _ (omega arith) refl c.loop-i.invariant.0, search rules, search rules)

pub returns : goal.returns
unfolding OwnNames
returns c = λ binders few k h. c.loop-i.invariant.0.done k (omega arith)
