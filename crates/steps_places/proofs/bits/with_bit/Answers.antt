use lib.Pow.{shl_exact}
use lib.Bits.{bit_or}
use native.Mathlib.Nat.{one-mul}
use mathlib.Core.Path.{sym, subst, ◌∙◌}
use Prim.Native.Nat.{◌^◌}
use Rattle.steps_places.specs.PlaceWalks.{WithBit}
use Rattle.steps_places.proofs.BitLaws.{with_bit_is}
use native.Mathlib.Omega.{arith}
use Rattle.steps_places.proofs.bits.with_bit.Goals as goal

pub returns : goal.returns
returns c =
    subst (λ y. WithBit c.args.set c.args.j (bit_or c.args.set y)) (sym (shl_exact {a = 1} 1 c.args.j 64 (omega arith) (omega (
      arith,
      c.requires,
    )) ∙ one-mul (2 ^ c.args.j))) (with_bit_is c.args.set c.args.j c.requires)
