use Rattle.steps_tallies.specs.Tallying.{EntryIs, nothing_at, call_entry, choice_entry, parallel_entry}
use Rattle.steps_tallies.proofs.TallyLaws.{entry-absent, small_entry, front-behind, second-behind, entry-none, entry-call, entry-prefix, entry_one, entry_choice, entry_parallel}
use mathlib.Core.Path.{sym, subst}
use Prim.Native.Nat.{◌<◌}
use Rattle.steps_tallies.specs.declared.tally.Entry.{Entry}
use Rattle.steps_tallies.proofs.tally.entry_at.Goals as goal

pub returns-in_default : goal.returns-in_default
unfolding nothing_at
returns-in_default c =
    let v = c.args in
    subst (λ (r : Entry). (v.at < r.end) × EntryIs v.src.now v.arities.now v.bodies.now v.at r) (sym c.nothing.ensures)
    (entry-absent v.src.now v.arities.now v.bodies.now v.at (c.front_at.ensures.none c.in_default.is) c.requires.0)

pub returns-then-t-eq-INACTION : goal.returns-then-t-eq-INACTION
unfolding nothing_at
returns-then-t-eq-INACTION c =
    let v = c.args in
    subst (λ (r : Entry). (v.at < r.end) × EntryIs v.src.now v.arities.now v.bodies.now v.at r) (sym c.nothing-then-t-eq-INACTION.ensures)
    (entry-none v.src.now v.arities.now v.bodies.now v.at c.in-Some.h (c.front_at.ensures.some _ c.in-Some.is) c.requires.0 c.if-t-eq-INACTION.true)

pub returns-then-t-eq-CALL : goal.returns-then-t-eq-CALL
unfolding call_entry
returns-then-t-eq-CALL c =
    let v = c.args in
    subst (λ (r : Entry). (v.at < r.end) × EntryIs v.src.now v.arities.now v.bodies.now v.at r) (sym c.call_entry.ensures)
    (entry-call v.src.now v.arities.now v.bodies.now v.at c.in-Some.h (c.front_at.ensures.some _ c.in-Some.is) c.get.result
    c.if-t-eq-CALL.true c.get.ensures)

pub returns-then-t-lt-MATCH : goal.returns-then-t-lt-MATCH
returns-then-t-lt-MATCH c =
    let v = c.args in
    subst (λ (r : Entry). (v.at < r.end) × EntryIs v.src.now v.arities.now v.bodies.now v.at r) (sym c.prefix_entry.ensures)
    (entry-prefix v.src.now v.arities.now v.bodies.now v.at c.in-Some.h (c.front_at.ensures.some _ c.in-Some.is) c.tallied-p.result
    (front-behind v.src.now v.arities.now v.bodies.now v.tally.now v.at c.in-Some.h (c.front_at.ensures.some _ c.in-Some.is)
    c.requires.3 c.if-t-eq-INACTION.false c.tallied-p.result c.tallied-p.ensures) c.if-t-eq-INACTION.false c.if-t-lt-MATCH.true)

pub choice-requires : goal.choice-requires
choice-requires c =
    let v = c.args in (
      small_entry v.src.now v.arities.now v.bodies.now c.in-Some.h.next c.tallied-p.result c.requires.1 c.requires.2
          (front-behind v.src.now v.arities.now v.bodies.now v.tally.now v.at c.in-Some.h (c.front_at.ensures.some _ c.in-Some.is)
          c.requires.3 c.if-t-eq-INACTION.false c.tallied-p.result c.tallied-p.ensures),
      small_entry v.src.now v.arities.now v.bodies.now
          c.tallied-p.result.end c.tallied-q.result c.requires.1 c.requires.2 (second-behind v.src.now v.arities.now v.bodies.now
          v.tally.now v.at c.in-Some.h (c.front_at.ensures.some _ c.in-Some.is) c.requires.3 c.if-t-eq-INACTION.false c.tallied-p.result c.tallied-p.ensures
          c.tallied-q.result c.tallied-q.ensures),
    )

pub returns-then-t-eq-CHOICE : goal.returns-then-t-eq-CHOICE
unfolding choice_entry
returns-then-t-eq-CHOICE c =
    let v = c.args in
    subst (λ (r : Entry). (v.at < r.end) × EntryIs v.src.now v.arities.now v.bodies.now v.at r) (sym c.choice.ensures)
    (entry_choice v.src.now v.arities.now v.bodies.now v.at c.in-Some.h (c.front_at.ensures.some _ c.in-Some.is) c.tallied-p.result
    (front-behind v.src.now v.arities.now v.bodies.now v.tally.now v.at c.in-Some.h (c.front_at.ensures.some _ c.in-Some.is)
    c.requires.3 c.if-t-eq-INACTION.false c.tallied-p.result c.tallied-p.ensures) c.tallied-q.result (second-behind v.src.now v.arities.now
    v.bodies.now v.tally.now v.at c.in-Some.h (c.front_at.ensures.some _ c.in-Some.is) c.requires.3 c.if-t-eq-INACTION.false c.tallied-p.result
    c.tallied-p.ensures c.tallied-q.result c.tallied-q.ensures) c.if-t-eq-CHOICE.true)

pub parallel-requires : goal.parallel-requires
parallel-requires c =
    let v = c.args in (
      small_entry v.src.now v.arities.now v.bodies.now c.in-Some.h.next c.tallied-p.result c.requires.1 c.requires.2
          (front-behind v.src.now v.arities.now v.bodies.now v.tally.now v.at c.in-Some.h (c.front_at.ensures.some _ c.in-Some.is)
          c.requires.3 c.if-t-eq-INACTION.false c.tallied-p.result c.tallied-p.ensures),
      small_entry v.src.now v.arities.now v.bodies.now
          c.tallied-p.result.end c.tallied-q.result c.requires.1 c.requires.2 (second-behind v.src.now v.arities.now v.bodies.now
          v.tally.now v.at c.in-Some.h (c.front_at.ensures.some _ c.in-Some.is) c.requires.3 c.if-t-eq-INACTION.false c.tallied-p.result c.tallied-p.ensures
          c.tallied-q.result c.tallied-q.ensures),
    )

pub returns-then-t-eq-PARALLEL : goal.returns-then-t-eq-PARALLEL
unfolding parallel_entry
returns-then-t-eq-PARALLEL c =
    let v = c.args in
    subst (λ (r : Entry). (v.at < r.end) × EntryIs v.src.now v.arities.now v.bodies.now v.at r) (sym c.parallel.ensures)
    (entry_parallel v.src.now v.arities.now v.bodies.now v.at c.in-Some.h (c.front_at.ensures.some _ c.in-Some.is) c.tallied-p.result
    (front-behind v.src.now v.arities.now v.bodies.now v.tally.now v.at c.in-Some.h (c.front_at.ensures.some _ c.in-Some.is)
    c.requires.3 c.if-t-eq-INACTION.false c.tallied-p.result c.tallied-p.ensures) c.tallied-q.result (second-behind v.src.now v.arities.now
    v.bodies.now v.tally.now v.at c.in-Some.h (c.front_at.ensures.some _ c.in-Some.is) c.requires.3 c.if-t-eq-INACTION.false c.tallied-p.result
    c.tallied-p.ensures c.tallied-q.result c.tallied-q.ensures) c.if-t-eq-PARALLEL.true)

pub returns : goal.returns
returns c =
    let v = c.args in
    entry_one v.src.now v.arities.now v.bodies.now v.at c.in-Some.h (c.front_at.ensures.some _ c.in-Some.is) c.tallied-p.result
    (front-behind v.src.now v.arities.now v.bodies.now v.tally.now v.at c.in-Some.h (c.front_at.ensures.some _ c.in-Some.is)
    c.requires.3 c.if-t-eq-INACTION.false c.tallied-p.result c.tallied-p.ensures) c.if-t-lt-MATCH.false c.if-t-eq-CHOICE.false c.if-t-eq-PARALLEL.false c.if-t-eq-CALL.false
