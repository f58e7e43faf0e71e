use mathlib.Core.Path.{◌≡◌, ap}
use Prim.Native.Nat.{ℕ, ◌+◌, ◌-◌, ◌*◌}
use native.Mathlib.Omega.{arith}
use lib.ListN.{take, drop}
use Rattle.steps_tallies.specs.Tally.{tally_size, body_tally}
use Rattle.steps_tallies.proofs.tally.body_tally.Goals as goal

pub returns : goal.returns
unfolding body_tally
returns c =
    let k = c.args.k in
    let e : tally_size * k + tally_size - tally_size * k ≡ tally_size = omega arith in
    ap (λ (n : ℕ). take n (drop (tally_size * k) c.args.bodies.now)) e
