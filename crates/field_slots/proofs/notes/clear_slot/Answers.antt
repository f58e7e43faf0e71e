use native.Mathlib.Omega.{arith}
use mathlib.Core.Path.{refl}
use Rattle.field_slots.proofs.NotedLaws.{clearing_start, clearing_next, cleared}
use borrow.Author.Rules.{rules}
use Rattle.field_slots.proofs.notes.clear_slot.Goals as goal

pub loop-k-init : goal.loop-k-init
loop-k-init c = (search rules, refl, clearing_start _ _)

pub loop-k-preserved : goal.loop-k-preserved
loop-k-preserved c = (
  search rules,
  search rules,
  clearing_next _ _ _ _ _ c.loop-k-test.true (omega (
    arith,
    c.loop-k.invariant.1,
    c.requires,
  ))
      c.put_note.ensures c.loop-k.invariant.2,
)

pub returns : goal.returns
returns c = cleared _ _ _ _ (omega arith) c.loop-k.invariant.2
