use Rattle.steps_places.proofs.NumberLaws.{weight_none, weight_past, weight_there}
use mathlib.Core.Path.{sym, ◌∙◌}
use native.Mathlib.Omega.{arith}
use Rattle.steps_places.proofs.numbers.weight_in.Goals as goal

pub returns-then-bit_at-ne1 : goal.returns-then-bit_at-ne1
returns-then-bit_at-ne1 c =
    let v = c.args in
    weight_none v.set v.weights.now v.j (λ e. c.if-bit_at-ne1.true (c.bit_at.ensures ∙ e))

pub returns-then-weights-j : goal.returns-then-weights-j
returns-then-weights-j c =
    let v = c.args in
    weight_past v.set v.weights.now v.j c.if-weights-j.true

pub overflow_cast-result : goal.overflow_cast-result
overflow_cast-result c = omega (arith, c.shared_slice_known-2-1.given c.args.j)

pub returns : goal.returns
returns c =
    let v = c.args in
    weight_there v.set v.weights.now v.j (sym c.bit_at.ensures ∙ c.if-bit_at-ne1.false) (omega (
      arith,
      c.shared_slice_known-2-1.given v.j,
    ))
