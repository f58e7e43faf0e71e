use mathlib.Core.Path.{ap}
use Prim.Native.Nat.{◌<◌}
use native.Mathlib.Omega.{arith}
use lib.ListN.{length}
use lib.Seq.{length-sets}
use borrow.Author.Rules.{rules}
use Rattle.terms_bytes.proofs.Stores.{span, length-span, get_d_span, sets_more, run_whole}
use Rattle.terms_renaming.proofs.rename.copy_few.Goals as goal

pub bounds-out-put : goal.bounds-out-put
bounds-out-put c = omega (arith, simp length-sets at (ap length c.loop-i.invariant.1))

pub loop-i-preserved : goal.loop-i-preserved
loop-i-preserved c =
    let a = c.args in
    let l = c.loop-i in
    let h : l.i < a.n = search rules in
    let xs = span a.src.now a.at a.n in
    let n : l.i < length xs = omega (arith, length-span a.src.now a.at a.n (search rules)) in
    (search rules, rw (l.invariant.1, ← get_d_span a.src.now a.at a.n l.i h) (sets_more a.out.now xs a.put l.i n))

pub returns : goal.returns
returns c =
    let a = c.args in
    let l = c.loop-i in
    let xs = span a.src.now a.at a.n in
    run_whole a.out.now xs a.put l.i _ (omega (arith, length-span a.src.now a.at a.n (search rules))) l.invariant.1
