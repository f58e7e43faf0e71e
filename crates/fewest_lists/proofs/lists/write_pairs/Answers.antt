use mathlib.Core.Path.{refl}
use native.Mathlib.Omega.{arith}
use borrow.Author.Rules.{rules}
use Rattle.fewest_lists.specs.Lists.{PairWritten}
use Rattle.fewest_lists.proofs.PairWriting.{one_short, pairs_start, pairs-more, pairs-whole}
use Rattle.fewest_lists.proofs.lists.write_pairs.Goals as goal

pub loop-k-init : goal.loop-k-init
loop-k-init c =
    let v = c.args in
    (search rules, search rules, refl, pairs_start v.flags.now v.out.now v.put)

pub loop-k-preserved : goal.loop-k-preserved
unfolding PairWritten
loop-k-preserved c =
    let v = c.args in (
      search rules,
      omega (
        arith,
        c.write_pair-end.ensures.ends,
        one_short v.flags.now
            c.loop-k.k,
      ),
      search rules,
      pairs-more v.flags.now v.out.now v.put
          c.loop-k.k c.loop-k.end _
          c.loop-k.out _ (omega arith) (omega arith) c.loop-k.invariant.3
          c.write_pair-end.ensures,
    )

pub returns : goal.returns
returns c =
    let v = c.args in
    pairs-whole v.flags.now v.out.now v.put c.loop-k.k c.loop-k.end c.loop-k.out (omega arith) (omega arith) c.loop-k.invariant.3
