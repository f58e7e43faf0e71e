use Prim.Native.Nat.{◌/◌, ◌+◌, ◌-◌}
use borrow.Author.Rules.{rules}
use mathlib.Core.Path.{sym, ◌∙◌, ap}
use native.Mathlib.Omega.{arith}
use Rattle.steps_entries.proofs.EntryOrder.{behind_middle, ahead_middle}
use Rattle.steps_entries.specs.Entries.{entry_at, entry_from, comes_before}
use Rattle.steps_entries.proofs.listed.place.Goals as goal

pub loop-low-init : goal.loop-low-init
loop-low-init c = (search rules, search rules, λ up i h. absurd (omega arith), λ up i h k. absurd (omega arith))

pub precedes-requires : goal.precedes-requires
precedes-requires c = (omega (arith, c.entry_place.ensures.1), search rules)

pub loop-low-preserved-then-precedes : goal.loop-low-preserved-then-precedes
unfolding entry_at
loop-low-preserved-then-precedes c =
    let v = c.args in (
      search rules,
      search rules,
      behind_middle v.list.now v.count (entry_from v.entry.now 0) (c.loop-low.low +
          (c.loop-low.high - c.loop-low.low) / 2) (search rules) (sym c.if-precedes.true ∙
          c.precedes.ensures ∙ ap (λ p. comes_before (entry_from v.list.now p) (entry_from v.entry.now 0))
          c.entry_place.ensures.0),
      c.loop-low.invariant.3,
    )

pub loop-low-preserved : goal.loop-low-preserved
unfolding entry_at
loop-low-preserved c =
    let v = c.args in (
      search rules,
      search rules,
      c.loop-low.invariant.2,
      ahead_middle v.list.now v.count (entry_from v.entry.now 0)
          (c.loop-low.low + (c.loop-low.high - c.loop-low.low) /
          2) (search rules) (sym c.if-precedes.false ∙ c.precedes.ensures ∙ ap (λ p. comes_before (entry_from v.list.now p) (entry_from
          v.entry.now 0)) c.entry_place.ensures.0),
    )

pub returns : goal.returns
returns c = record { within = search rules; behind = c.loop-low.invariant.2; ahead = λ up i h. c.loop-low.invariant.3 up i (omega arith) }
