use native.Mathlib.Omega.{arith}
use Rattle.field_pairs.proofs.PairLaws.{respected_own, respected_next, merged-found, permitted_trivial, permitted-none, none-merged}
use borrow.Author.Rules.{rules}
use Rattle.field_pairs.proofs.pairs.permitted.Goals as goal

pub returns-then-is_trivial : goal.returns-then-is_trivial
returns-then-is_trivial c =
    elim c.then-is_trivial.branch [
      | goal.then-is_trivial-via-then-is_trivial w ↦ permitted_trivial _ _ _ _ c.is_trivial.ensures w.if-is_trivial.true
      | goal.then-is_trivial-via-else-is_trivial+then-none_apart w ↦ permitted-none _ _ _ _ w.none_apart.ensures w.if-none_apart.true
    ]

pub loop-n-init : goal.loop-n-init
loop-n-init c = (search rules, λ D s e f j h. absurd (omega arith))

pub returns-then-merges_apart : goal.returns-then-merges_apart
returns-then-merges_apart c = merged-found _ _ _ _ _ c.merges_apart.ensures c.if-merges_apart.true

pub loop-n-preserved : goal.loop-n-preserved
loop-n-preserved c = (
  search rules,
  elim c.else-class_of-n.branch [
    | goal.else-class_of-n-via-then-class_of-n+else-merges_apart t ↦ respected_next _ _ _ _ _ t.merges_apart.ensures t.if-merges_apart.false c.loop-n.invariant.1
    | goal.else-class_of-n-via-else-class_of-n t ↦ respected_own _ _ _ _ _ c.class_of.ensures t.if-class_of-n.false c.loop-n.invariant.1
  ],
)

pub returns : goal.returns
returns c = none-merged _ _ _ _ c.loop-n-test.false c.loop-n.invariant.1
