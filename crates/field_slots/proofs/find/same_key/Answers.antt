use mathlib.Core.Bool.{true, false, true≢false}
use mathlib.Core.Path.{◌≡◌, ap, sym, ◌∙◌}
use native.Mathlib.Omega.{arith}
use Prim.Native.Nat.{◌+◌, ◌-◌}
use lib.ListN.{take, drop}
use lib.Dec.{eqb}
use lib.Pointwise.{pointwise, bytes_decides}
use Rattle.field_pairs.specs.Slot.{key_bytes}
use Rattle.field_slots.proofs.find.same_key.Goals as goal

pub returns : goal.returns
returns c =
    let a = c.args in
    let size : a.at + key_bytes - a.at ≡ key_bytes = omega arith in
    let e = c.eq.ensures ∙ ap (λ n. pointwise eqb (take n (drop a.at a.area.now)) (take key_bytes a.key.now)) size in
    let same = bytes_decides (take key_bytes (drop a.at a.area.now)) (take key_bytes a.key.now) in
    record {
      same = λ q. same.0 (sym e ∙ q);
      other = λ q k. let t : true ≡ false = sym (same.1 k) ∙ sym e ∙ q in true≢false t;
    }
