use borrow.Author.Count.{below_more}
use mathlib.Core.Path.{refl, sym, subst}
use Rattle.verdict_notes.specs.Notes.{Numbers}
use Rattle.verdict_answers.proofs.SideLaws.{side_none, side_skips, reply-answers, reply-fails, step-fails, side_all}
use native.Mathlib.Omega.{arith}
use Rattle.verdict_answers.proofs.answered.run_answered.Goals as goal

pub steps-init : goal.steps-init
steps-init c = side_none c.args.run.from c.args.run.to _ _ _ _ _ _ _ _ _ _ _ _ c.requires.2

pub is_asked-requires : goal.is_asked-requires
is_asked-requires c =
    (c.requires.1.0, c.requires.1.1, omega (arith, c.requires.0.1))

pub steps-preserved-then-not-is_asked : goal.steps-preserved-then-not-is_asked
steps-preserved-then-not-is_asked c =
    side_skips _ _ _ _ _ _ _ _ _ _ _ _ _ _ _ _ _ (omega arith) c.is_asked.ensures (c.if-not-is_asked.true) c.steps.invariant

pub loop-j-init : goal.loop-j-init
loop-j-init c = (refl, λ l h. absurd (omega arith))

pub lot_left-lot-requires : goal.lot_left-lot-requires
lot_left-lot-requires c = (
  c.requires.0.0,
  omega (arith, c.requires.0.1),
  omega (arith, c.requires.0.2),
  c.requires.1,
  subst Numbers (sym c.loop-j.invariant.0)
      c.steps.invariant.numbers,
)

pub steps-preserved : goal.steps-preserved
steps-preserved c =
    reply-answers _ _ _ _ _ _ _ _ _ _ _ _ _ _ _ (omega arith) c.is_asked.ensures (c.if-not-is_asked.false) c.requires.1.2 _
    (omega arith) _ _ c.lot_left-lot.ensures _ _ _ c.loop-j.invariant.0 c.in-Ok.is c.steps.invariant

pub loop-j-preserved : goal.loop-j-preserved
loop-j-preserved c = (
  c.loop-j.invariant.0,
  below_more _ _ c.loop-j.invariant.1 (reply-fails _ _ _ _ _ _ _ _ _ _ _ _ _ c.steps.i _ (omega arith)
      c.is_asked.ensures (c.if-not-is_asked.false) c.requires.1.2 c.loop-j.j (omega arith) _ _ c.lot_left-lot.ensures _ c.in_default.is),
)

pub returns-in-steps : goal.returns-in-steps
returns-in-steps c =
    step-fails _ _ _ _ _ _ _ _ _ _ _ _ _ c.steps.i _ (omega arith) c.is_asked.ensures (c.if-not-is_asked.false) _ _ _ _
    c.loop-j.invariant.0 (omega arith) c.loop-j.invariant.1 c.steps.invariant

pub returns : goal.returns
returns c =
    side_all c.args.run.from c.args.run.to _ _ _ _ _ _ _ _ _ _ _ _ _ c.steps.i (omega arith) c.steps.invariant
