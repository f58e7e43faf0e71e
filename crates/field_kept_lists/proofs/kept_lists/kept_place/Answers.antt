use native.Mathlib.Omega.{arith}
use mathlib.Core.Path.{refl}
use Prim.Native.Nat.{◌+◌, ◌*◌, ◌/◌, ◌%◌}
use lib.ListN.{length}
use Rattle.field_kept_lists.proofs.kept_lists.kept_place.Goals as goal

pub returns : goal.returns
returns c =
    record { number = (c.weighed.result + 5 * length c.args.part.now) * 40503 % 65521 / 2521; among = omega arith; is = refl }
