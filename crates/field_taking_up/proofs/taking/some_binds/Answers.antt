use mathlib.Core.Path.{refl}
use native.Mathlib.Omega.{arith}
use borrow.Author.Rules.{rules}
use Rattle.field_taking_up.proofs.TakingLaws.{binds_found, binds_next, binds_none}
use Rattle.field_taking_up.proofs.taking.some_binds.Goals as goal

pub loop-i-init : goal.loop-i-init
loop-i-init c = (search rules, λ ss e. refl)

pub returns-then-binds : goal.returns-then-binds
returns-then-binds c = binds_found _ _ _ (omega arith) c.loop-i.invariant.1 _ c.binds.ensures c.if-binds.true

pub loop-i-preserved : goal.loop-i-preserved
loop-i-preserved c = (search rules, binds_next _ _ _ (omega arith) c.loop-i.invariant.1 _ c.binds.ensures c.if-binds.false)

pub returns : goal.returns
returns c = binds_none _ _ c.loop-i.i (omega arith) c.loop-i.invariant.1
