use mathlib.Core.Path.{refl}
use Rattle.terms_restrictions.proofs.RestrictionWalk.{looking_start, looking_done, found, fits, looking_again, no_tag, restricts}
use Rattle.terms_restrictions.proofs.restriction.has_restriction.Goals as goal

-- src/restriction.rt:12:5
pub loop-at-init : goal.loop-at-init
loop-at-init c = looking_start _ _

-- src/restriction.rt:15:13
pub returns-then-t-eq-RESTRICTION : goal.returns-then-t-eq-RESTRICTION
unfolding restricts
returns-then-t-eq-RESTRICTION c =
    found c.args.src.now c.args.arities.now c.loop-at.at c.loop-at-test.true c.loop-at.invariant 8 c.if-t-eq-RESTRICTION.true refl

-- src/restriction.rt:18:13
pub returns-then-t-eq-NEW_OUTPUT : goal.returns-then-t-eq-NEW_OUTPUT
unfolding restricts
returns-then-t-eq-NEW_OUTPUT c =
    found c.args.src.now c.args.arities.now c.loop-at.at c.loop-at-test.true c.loop-at.invariant 4 c.if-t-eq-NEW_OUTPUT.true refl

-- src/restriction.rt:23:13
pub returns-then-src-at : goal.returns-then-src-at
returns-then-src-at c =
    fits c.args.src.now c.args.arities.now c.loop-at.at c.loop-at-test.true c.loop-at.invariant c.shape_at-h.result
    c.shape_at-h.ensures c.if-src-at.true

-- src/restriction.rt:12:5
pub loop-at-preserved : goal.loop-at-preserved
loop-at-preserved c =
    looking_again c.args.src.now c.args.arities.now c.loop-at.at c.loop-at-test.true c.loop-at.invariant c.shape_at-h.result
    c.shape_at-h.ensures (no_tag _ c.if-t-eq-RESTRICTION.false c.if-t-eq-NEW_OUTPUT.false)

-- src/restriction.rt:8:1
pub returns : goal.returns
returns c =
    looking_done c.args.src.now c.args.arities.now c.loop-at.at c.loop-at-test.false c.loop-at.invariant
