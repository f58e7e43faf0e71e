use mathlib.Core.Path.{refl}
use native.Mathlib.Omega.{arith}
use borrow.Author.Rules.{rules}
use Rattle.terms_renaming.proofs.Filling.{fill_start, fill_step}
use Rattle.calculus.specs.Cond.{cls}
use Rattle.steps_conditions.specs.Slots.{HasSlotClasses}
use Rattle.steps_conditions.proofs.condition.Condition.empty.Goals as goal

pub loop-i-init : goal.loop-i-init
loop-i-init c = (fill_start _ _, search rules, refl)

pub loop-i-preserved : goal.loop-i-preserved
loop-i-preserved c = (fill_step _ _ _ _ _ (omega arith) refl c.loop-i.invariant.0, search rules, refl)

pub returns : goal.returns
unfolding HasSlotClasses cls
returns c = λ n h. c.loop-i.invariant.0.done n (omega arith)
