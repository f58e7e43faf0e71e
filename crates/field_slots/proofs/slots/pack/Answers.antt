use native.Mathlib.Omega.{arith}
use mathlib.Core.Path.{refl}
use Rattle.field_slots.proofs.KeyLaws.{packing_next, packing_whole}
use borrow.Author.Rules.{rules}
use Rattle.field_slots.proofs.slots.pack.Goals as goal

pub loop-k-init : goal.loop-k-init
loop-k-init c = (search rules, search rules, λ D e. refl)

pub loop-k-preserved : goal.loop-k-preserved
loop-k-preserved c = (search rules, search rules, packing_next _ _ _ _ _ _ (omega arith) c.loop-k.invariant.2 c.octet-b.ensures)

pub returns : goal.returns
returns c = packing_whole _ _ _ _ c.loop-k.k (omega arith) c.loop-k.invariant.2
