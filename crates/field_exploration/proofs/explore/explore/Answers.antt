use native.Mathlib.Omega.{arith}
use mathlib.Core.Path.{refl}
use Rattle.field_exploration.proofs.ExploringLaws.{explorers_start, explorers_cleared, explorers_next, explorers_full, explorers_end, explored_from}
use borrow.Author.Rules.{rules}
use Rattle.field_exploration.proofs.explore.explore.Goals as goal

pub loop-taken-init : goal.loop-taken-init
loop-taken-init c =
    let g = c.requires in (
      search rules,
      search rules,
      search rules,
      search rules,
      search rules,
      search rules,
      g.6,
      g.7,
      explorers_start _ _ _ g.0 _ g.2 _ (omega
          arith) _ c.put.ensures c.start_key-key.ensures,
      refl,
      refl,
      refl,
      refl,
    )

pub grow-requires : goal.grow-requires
grow-requires c =
    let i = c.loop-taken.invariant in (
      record { waits = c.loop-taken-test.true; few = i.2; most = c.requires.1; room = omega (arith, c.requires.2, i.3, c.clear_slot.auto.work) },
      c.requires.3,
      i.4,
      i.5,
      i.6,
      i.7,
    )

pub returns-in_err-known : goal.returns-in_err-known
returns-in_err-known c = (
  rw c.from_residual.ensures (explored_from _ _ _ c.requires.0 _ c.requires.2 _ (omega (arith, c.start_key-key.type_inv)) _ c.put.ensures _ _ (explorers_full _ _ _ _ _ _ _
      (explorers_cleared _ _ _ _ _ _ _ _ (omega (arith, c.loop-taken-test.true, c.loop-taken.invariant.2)) c.clear_slot.ensures c.loop-taken.invariant.8)
      c.loop-taken-test.true _ (rw c.in_err-known.was at c.grow.ensures.0))),
  c.grow.ensures.1,
  c.grow.ensures.2,
)

pub overflow_add-taken : goal.overflow_add-taken
overflow_add-taken c =
    omega (arith, c.loop-taken-test.true, c.loop-taken.invariant.2, c.requires.1)

pub loop-taken-preserved : goal.loop-taken-preserved
loop-taken-preserved c =
    let g = rw c.in_ok-known.was at
    c.grow.ensures.0 in let b =
    g.grows.within _ refl in (
      omega (
        arith,
        b.0,
        c.loop-taken-test.true,
      ),
      omega (
        arith,
        b.0,
        c.loop-taken.invariant.1,
      ),
      b.1,
      search rules,
      search rules,
      search rules,
      c.grow.ensures.1,
      c.grow.ensures.2,
      explorers_next _ _ _
          _ _ _ _ (explorers_cleared _ _ _ _ _ _ _ _ (omega (
            arith,
            c.loop-taken-test.true,
            c.loop-taken.invariant.2,
          ))
          c.clear_slot.ensures
          c.loop-taken.invariant.8)
          c.loop-taken-test.true
          _
          c.clear_slot.ensures.none
          _ g,
      omega (
        arith,
        c.loop-taken.invariant.9,
        c.grow.auto,
      ),
      omega (
        arith,
        c.loop-taken.invariant.10,
        c.grow.auto,
      ),
      omega (
        arith,
        c.loop-taken.invariant.11,
        c.grow.auto,
      ),
      omega (
        arith,
        c.loop-taken.invariant.12,
        c.grow.auto,
      ),
    )

pub returns : goal.returns
returns c = (
  explored_from _ _ _ c.requires.0 _ c.requires.2 _ (omega arith) _ c.put.ensures _ _ (explorers_end _ _ _ _ _ _ _ c.loop-taken.invariant.8
      (omega arith) (omega arith) (omega arith)),
  c.loop-taken.invariant.6,
  c.loop-taken.invariant.7,
)
