use mathlib.Core.Path.{◌≡◌, ap, ◌∙◌}
use Prim.Native.Nat.{◌+◌, ◌-◌}
use native.Mathlib.Omega.{arith}
use borrow.Rule.Slice.PartMut.{put_mid}
use lib.ListN.{length}
use lib.Seq.{sets}
use Rattle.terms_bytes.proofs.Stores.{span, length-span, put-run}
use Rattle.terms_bytes.proofs.bytes.copy.Goals as goal

pub returns : goal.returns
returns c =
    let a = c.args in
    let k : a.put + a.n - a.put ≡ a.n = omega arith in
    let m : a.at + a.n - a.at ≡ a.n = omega arith in
    let xs = span a.src.now a.at a.n in
    let l = length-span a.src.now a.at a.n c.requires.0 in
    let y : c.copy_from_slice.new.self ≡ xs = rw (← m) c.copy_from_slice.ensures.after in
    ap (put_mid a.put (a.put + a.n - a.put) a.out.now) y ∙ put-run a.out.now xs a.put (a.put + a.n - a.put) (omega (arith, l, c.requires.1)) (omega (arith, l, k))
