use mathlib.Core.Path.{refl}
use native.Mathlib.Omega.{arith}
use Rattle.terms_renaming.proofs.Filling.{fill_start, fill_step}
use borrow.Author.Rules.{rules}
use Rattle.field_pairs.proofs.names.replacing.Goals as goal

pub loop-i-init : goal.loop-i-init
loop-i-init c = (fill_start _ _, search rules, refl)

pub loop-i-preserved : goal.loop-i-preserved
loop-i-preserved c =
    (fill_step _ _ _ c.loop-i.i _ (omega arith) c.replaced.ensures c.loop-i.invariant.0, search rules, refl)

pub returns : goal.returns
returns c = λ n h. c.loop-i.invariant.0.done n (omega arith)
