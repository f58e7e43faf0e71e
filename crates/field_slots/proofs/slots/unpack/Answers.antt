use Rattle.field_slots.proofs.KeyLaws.{unpack_zero, unpack_next, unpacked}
use Rattle.terms_renaming.proofs.Filling.{fill_start}
use lib.ListN.{length}
use Prim.Native.Nat.{◌*◌}
use mathlib.Core.Path.{refl, ap}
use borrow.Author.Rules.{rules}
use native.Mathlib.Omega.{arith}
use Rattle.field_slots.proofs.slots.unpack.Goals as goal

pub loop-k-init : goal.loop-k-init
loop-k-init c = (search rules, ap length c.requires.1, fill_start _ _)

pub loop-k-preserved : goal.loop-k-preserved
loop-k-preserved c =
    let v = c.args in (
      search rules,
      search rules,
      elim c.if-b-ne0.branch [
        | goal.then-b-ne0 w ↦ rw (w.flags-is, w.unpack_octet.ensures) (unpack_next v.area.now v.at _ _ c.loop-k.k c.requires.1 (omega arith)
            c.loop-k.invariant.2 _ refl)
        | goal.else-b-ne0 w ↦ rw w.flags-is (unpack_zero v.area.now v.at _ _ c.loop-k.k c.requires.1 (omega arith) c.loop-k.invariant.2
            w.if-b-ne0.false)
      ],
    )

pub returns : goal.returns
returns c =
    unpacked _ _ c.args.flags.now _ (8 * c.loop-k.k) (omega arith) (omega arith) c.loop-k.invariant.2
