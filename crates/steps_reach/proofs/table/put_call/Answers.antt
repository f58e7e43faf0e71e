use Prim.Native.Nat.{◌*◌}
use native.Mathlib.Omega.{arith}
use lib.ListN.{length-set}
use Rattle.steps_reach.proofs.table.put_call.Goals as goal

pub copy-requires : goal.copy-requires
copy-requires c =
    let v = c.args in
    omega (arith, length-set v.table.now (9 * v.size) v.definition)

pub returns : goal.returns
returns c = c.copy.ensures
