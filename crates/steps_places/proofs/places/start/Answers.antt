use Rattle.steps_places.proofs.FindLaws.{started}
use native.Mathlib.Omega.{arith}
use Rattle.steps_places.proofs.places.start.Goals as goal

pub returns : goal.returns
returns c =
    started c.clear.new.found c.args.rows c.with_bit.result c.requires.0 (let l = c.clear.auto.found in omega (arith, l, c.requires.1))
    c.clear.ensures c.with_bit.ensures
