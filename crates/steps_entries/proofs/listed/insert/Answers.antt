use Prim.Native.Nat.{◌+◌, ◌-◌}
use mathlib.Core.Path.{◌∙◌}
use native.Mathlib.Omega.{arith}
use Rattle.steps_entries.proofs.InsertLaws.{tested, inserted_there, inserted_full, inserted_new}
use Rattle.steps_entries.proofs.Moves.{moved_part}
use Rattle.steps_entries.specs.Entries.{entry_from}
use Rattle.steps_entries.specs.Entries.{index_place}
use borrow.Author.Rules.{rules}
use Rattle.steps_entries.proofs.listed.insert.Goals as goal
use Rattle.steps_entries.proofs.listed.insert.Goals.{then-i-count+else-not-precedes, else-i-count}

pub returns-then-not-precedes : goal.returns-then-not-precedes
returns-then-not-precedes c =
    let v = c.args in
    inserted_there v.list.now v.count v.entry.now c.requires.2 c.place-i.result c.place-i.ensures c.if-i-count.true (tested
    v.list.now v.entry.now c.place-i.result c.entry_place.result c.precedes.result c.entry_place.ensures.0
    c.precedes.ensures ∙ c.if-not-precedes.true)

pub returns-then-count-eq-MOST_STEPS : goal.returns-then-count-eq-MOST_STEPS
returns-then-count-eq-MOST_STEPS c =
    let v = c.args in
    inserted_full v.list.now v.count v.entry.now c.requires.2 c.place-i.result c.place-i.ensures c.if-count-eq-MOST_STEPS.true (elim c.if-i-count.branch [
      | then-i-count+else-not-precedes w ↦ λ h. tested v.list.now v.entry.now c.place-i.result w.entry_place.result w.precedes.result w.entry_place.ensures.0
          w.precedes.ensures ∙ w.if-not-precedes.false
      | else-i-count w ↦ λ h. absurd (omega arith)
    ])

pub returns : goal.returns
unfolding entry_from
returns c =
    let v = c.args in
    inserted_new v.list.now v.count v.entry.now
    c.requires.2
    c.place-i.result
    c.place-i.ensures
    c.requires.1 (search rules) (elim c.if-i-count.branch [
      | then-i-count+else-not-precedes w ↦ λ h. tested v.list.now v.entry.now c.place-i.result w.entry_place.result w.precedes.result w.entry_place.ensures.0
          w.precedes.ensures ∙ w.if-not-precedes.false
      | else-i-count w ↦ λ h. absurd (omega arith)
    ]) _ _
    c.copy.ensures (moved_part
    c.copy.new.out (index_place +
    c.place-i.result) 1 (v.count -
    c.place-i.result) (search rules)
    c.move_up.new.list c.move_up.ensures)
