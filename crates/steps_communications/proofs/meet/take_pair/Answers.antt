use native.Mathlib.Omega.{arith}
use Rattle.steps_communications.proofs.meet.take_pair.Goals as goal

pub returns-then-a-ge-MATCHED : goal.returns-then-a-ge-MATCHED
returns-then-a-ge-MATCHED c = c.take_matched.ensures

pub take_same-requires : goal.take_same-requires
take_same-requires c =
    (c.requires.0, c.requires.1, omega (arith, c.if-a-ge-MATCHED.false), omega (arith, c.if-b-ge-MATCHED.false), c.if-a-b.true, c.requires.2)

pub returns-then-a-b : goal.returns-then-a-b
returns-then-a-b c = c.take_same.ensures

pub take_merging-requires : goal.take_merging-requires
take_merging-requires c =
    (c.requires.0, c.requires.1, c.requires.2, omega (arith, c.if-a-ge-MATCHED.false), omega (arith, c.if-b-ge-MATCHED.false), c.if-a-b.false)

pub returns : goal.returns
returns c = c.take_merging.ensures
