use mathlib.Core.Path.{refl}
use Prim.Native.Nat.{◌+◌}
use native.Mathlib.Omega.{arith}
use lib.ListN.{length-set, length}
use Rattle.terms_beside.proofs.BesideWriting.{side_stored}
use Rattle.terms_beside.proofs.beside.write_side.Goals as goal

pub copy-requires : goal.copy-requires
copy-requires c = simp length-set (omega arith)

pub copy-requires-2 : goal.copy-requires-2
copy-requires-2 c =
    let l = simp length-set at c.copy.auto.out in
    omega (arith, l, c.requires)

pub returns : goal.returns
returns c =
    let a = c.args in (
      omega (arith, c.requires),
      side_stored a.question.now a.at a.size a.third.now a.area.now a.put (1 + a.size + length
          a.third.now) _ _ c.requires.0 refl (rw c.put_size.ensures at c.copy.ensures) c.copy-2.ensures,
    )
