use native.Mathlib.Omega.{arith}
use mathlib.Core.Path.{refl}
use Rattle.field_slots.proofs.NotedLaws.{spare_none}
use Rattle.verdict_notes.proofs.NoteLaws.{clearing_next, cleared}
use borrow.Author.Rules.{rules}
use Rattle.verdict_notes.proofs.relied.clear_notes.Goals as goal

pub loop-i-init : goal.loop-i-init
loop-i-init c = (search rules, refl, (spare_none _ _, λ k h. absurd (omega arith)))

pub loop-i-preserved : goal.loop-i-preserved
loop-i-preserved c = (
  search rules,
  search rules,
  clearing_next _ _ _ _ _ c.loop-i-test.true (omega (
    arith,
    c.loop-i.invariant.1,
    c.requires,
  ))
      c.put_note.ensures c.loop-i.invariant.2,
)

pub returns : goal.returns
returns c = cleared _ _ _ _ (omega arith) c.loop-i.invariant.2
