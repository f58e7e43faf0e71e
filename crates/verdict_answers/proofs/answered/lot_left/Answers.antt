use Rattle.verdict_answers.proofs.LotLaws.{lot-none, lot-start, lot_skips, lot-more, lot-fails, lot-all}
use native.Mathlib.Omega.{arith}
use Rattle.verdict_answers.proofs.answered.lot_left.Goals as goal

pub returns-then-not-answers : goal.returns-then-not-answers
returns-then-not-answers c =
    lot-none _ _ _ _ _ _ _ _ _ _ _ _ _ _ c.answers.ensures _ (c.if-not-answers.true) c.requires.4

pub names-init : goal.names-init
names-init c = lot-start _ _ _ _ _ _ _ _ _ _ _ _ _ _ c.requires.4

pub names-preserved-then-not-counts : goal.names-preserved-then-not-counts
names-preserved-then-not-counts c =
    lot_skips _ _ _ _ _ _ _ _ _ _ _ _ _ _ _ _ c.counts.ensures _ (c.if-not-counts.true) c.names.invariant

pub relied_with-relied-requires : goal.relied_with-relied-requires
relied_with-relied-requires c =
    (c.names.invariant.numbers, omega (arith, c.find_left.ensures.within _ c.in-Some.is, c.requires.0.1, c.requires.0.2))

pub names-preserved : goal.names-preserved
names-preserved c =
    lot-more _ _ _ _ _ _ _ _ _ _ _ _ _ _ _ _ c.counts.ensures _ _ c.successor-key.ensures c.find_left.ensures _ _ _
    c.in-Some.is c.relied_with-relied.ensures c.names.invariant

pub returns-in_default : goal.returns-in_default
returns-in_default c =
    lot-fails _ _ _ _ _ _ _ _ _ _ _ _ _ _ _ _ c.counts.ensures _ _ c.successor-key.ensures c.find_left.ensures
    (omega arith) (omega arith) (c.if-not-counts.false) _ c.answers.ensures (c.if-not-answers.false) c.in_default.is c.requires.4

pub returns : goal.returns
returns c =
    lot-all _ _ _ _ _ _ _ _ _ _ _ _ _ _ c.answers.ensures _ _ _ (c.if-not-answers.false) (omega arith) c.names.invariant
