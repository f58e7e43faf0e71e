use Prim.Native.Nat.{◌+◌, ◌<◌}
use lib.ListN.{length}
use native.Mathlib.Omega.{arith}
use lib.Seq.{lt-length-set}
use Rattle.fewest_lists.proofs.PairWriting.{not_written, pair_written}
use Rattle.fewest_lists.proofs.lists.write_pair.Goals as goal

pub returns-then-flags-k-eq0 : goal.returns-then-flags-k-eq0
returns-then-flags-k-eq0 c = not_written _ _ _ _ c.if-flags-k-eq0.true

pub bounds-out-end-2 : goal.bounds-out-end-2
bounds-out-end-2 c =
    let v = c.args in
    let h : v.end + 1 < length v.out.now = omega arith in
    lt-length-set v.out.now v.end _ h

pub returns : goal.returns
returns c =
    pair_written _ _ _ _ c.if-flags-k-eq0.false _ _ c.pair_of-pair.ensures.first.is c.pair_of-pair.ensures.second.is
