use native.Mathlib.Omega.{arith}
use Rattle.steps_equal_branches.proofs.BranchLaws.{chain_longer}
use Rattle.steps_equal_branches.proofs.same.chain_length.Goals as goal

pub loop-q-init : goal.loop-q-init
loop-q-init c = (omega arith, omega arith, λ j h. absurd (omega arith))

pub returns-then-src-q-ne-MATCH : goal.returns-then-src-q-ne-MATCH
returns-then-src-q-ne-MATCH c = record { inside = c.loop-q.invariant.1; matches = c.loop-q.invariant.2 }

pub loop-q-preserved : goal.loop-q-preserved
loop-q-preserved c = (
  omega (arith, c.loop-q.invariant.0),
  omega (arith, c.loop-q.invariant.0, c.loop-q-test.true),
  chain_longer c.args.src.now
      c.args.at c.loop-q.n c.loop-q.q c.loop-q.invariant.0 c.if-src-q-ne-MATCH.false c.loop-q.invariant.2,
)

pub returns : goal.returns
returns c = record { inside = c.loop-q.invariant.1; matches = c.loop-q.invariant.2 }
