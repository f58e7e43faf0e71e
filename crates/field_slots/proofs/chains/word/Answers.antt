use native.Mathlib.Omega.{arith}
use mathlib.Core.Path.{refl}
use Prim.Native.Nat.{◌+◌}
use Rattle.field_slots.specs.Chains.{word_at}
use Rattle.field_slots.proofs.chains.word.Goals as goal

pub overflow_cast-result : goal.overflow_cast-result
overflow_cast-result c = omega (arith, c.shared_slice_known-1.given c.args.at)

pub overflow_cast-result-2 : goal.overflow_cast-result-2
overflow_cast-result-2 c =
    omega (arith, c.shared_slice_known-1.given c.args.at, c.shared_slice_known-2-1.given (c.args.at + 1))

pub overflow_mul-result : goal.overflow_mul-result
overflow_mul-result c =
    omega (arith, c.shared_slice_known-1.given c.args.at, c.shared_slice_known-2-1.given (c.args.at + 1))

pub overflow_add-result-2 : goal.overflow_add-result-2
overflow_add-result-2 c =
    omega (arith, c.shared_slice_known-1.given c.args.at, c.shared_slice_known-2-1.given (c.args.at + 1))

pub overflow_cast-result-3 : goal.overflow_cast-result-3
overflow_cast-result-3 c =
    let v = c.args in
    omega (
      arith,
      c.shared_slice_known-1.given v.at,
      c.shared_slice_known-2-1.given (v.at + 1),
      c.shared_slice_known-3-1.given (v.at + 2),
    )

pub overflow_mul-result-2 : goal.overflow_mul-result-2
overflow_mul-result-2 c =
    let v = c.args in
    omega (
      arith,
      c.shared_slice_known-1.given v.at,
      c.shared_slice_known-2-1.given (v.at + 1),
      c.shared_slice_known-3-1.given (v.at + 2),
    )

pub overflow_add-result-4 : goal.overflow_add-result-4
overflow_add-result-4 c =
    let v = c.args in
    omega (
      arith,
      c.shared_slice_known-1.given v.at,
      c.shared_slice_known-2-1.given (v.at + 1),
      c.shared_slice_known-3-1.given (v.at + 2),
    )

pub overflow_cast-result-4 : goal.overflow_cast-result-4
overflow_cast-result-4 c =
    let v = c.args in
    omega (
      arith,
      c.shared_slice_known-1.given v.at,
      c.shared_slice_known-2-1.given (v.at + 1),
      c.shared_slice_known-3-1.given (v.at + 2),
      c.shared_slice_known-4-1.given (v.at + 3),
    )

pub overflow_mul-result-3 : goal.overflow_mul-result-3
overflow_mul-result-3 c =
    let v = c.args in
    omega (
      arith,
      c.shared_slice_known-1.given v.at,
      c.shared_slice_known-2-1.given (v.at + 1),
      c.shared_slice_known-3-1.given (v.at + 2),
      c.shared_slice_known-4-1.given (v.at + 3),
    )

pub overflow_add-result-6 : goal.overflow_add-result-6
overflow_add-result-6 c =
    let v = c.args in
    omega (
      arith,
      c.shared_slice_known-1.given v.at,
      c.shared_slice_known-2-1.given (v.at + 1),
      c.shared_slice_known-3-1.given (v.at + 2),
      c.shared_slice_known-4-1.given (v.at + 3),
    )

pub returns : goal.returns
unfolding word_at
returns c =
    let v = c.args in
    record {
      is = refl;
      below = omega (
        arith,
        c.shared_slice_known-1.given v.at,
        c.shared_slice_known-2-1.given (v.at + 1),
        c.shared_slice_known-3-1.given (v.at + 2),
        c.shared_slice_known-4-1.given (v.at + 3),
      );
    }
