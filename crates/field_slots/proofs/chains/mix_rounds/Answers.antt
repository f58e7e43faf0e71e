use Rattle.field_slots.proofs.ChainLaws.{rounds_next, rounds-whole}
use Rattle.field_slots.specs.Chains.{rounds}
use mathlib.Core.Path.{refl}
use borrow.Author.Rules.{rules}
use native.Mathlib.Omega.{arith}
use Rattle.field_slots.proofs.chains.mix_rounds.Goals as goal

pub loop-i-init : goal.loop-i-init
unfolding rounds
loop-i-init c = (search rules, search rules, refl)

pub loop-i-preserved : goal.loop-i-preserved
loop-i-preserved c = (search rules, c.mix-x.ensures.below, rounds_next _ _ _ _ _ _ c.loop-i.invariant.2 c.mix-x.ensures.is)

pub returns : goal.returns
returns c = record { is = rounds-whole _ _ _ _ c.loop-i.i _ (omega arith) c.loop-i.invariant.2; below = search rules }
