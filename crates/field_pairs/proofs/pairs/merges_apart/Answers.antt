use native.Mathlib.Omega.{arith}
use Rattle.field_pairs.proofs.PairLaws.{spared_respected, spared_held, merged_held, spared_all}
use borrow.Author.Rules.{rules}
use Rattle.field_pairs.proofs.pairs.merges_apart.Goals as goal

pub loop-m-init : goal.loop-m-init
loop-m-init c = (search rules, λ D s e f j h. absurd (omega arith))

pub returns-then-held_apart : goal.returns-then-held_apart
returns-then-held_apart c =
    merged_held _ _ _ _ _ (omega arith) (omega arith) _ c.respects.ensures (c.if-not-respects.true) _ c.held_apart.ensures
    c.if-held_apart.true

pub loop-m-preserved : goal.loop-m-preserved
loop-m-preserved c = (
  search rules,
  elim c.else-not-respects.branch [
    | goal.else-not-respects-via-then-not-respects+else-held_apart t ↦ spared_held _ _ _ _ _ (omega arith) (omega arith) _ t.held_apart.ensures t.if-held_apart.false c.loop-m.invariant.1
    | goal.else-not-respects-via-else-not-respects t ↦ spared_respected _ _ _ _ _ (omega arith) (omega arith) _ c.respects.ensures t.if-not-respects.false
        c.loop-m.invariant.1
  ],
)

pub returns : goal.returns
returns c = spared_all _ _ _ _ _ (omega arith) c.loop-m.invariant.1
