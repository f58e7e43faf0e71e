use native.Mathlib.Omega.{arith}
use mathlib.Core.Path.{◌∙◌, ap}
use Prim.Native.Nat.{◌+◌}
use lib.ListN.{length, take, drop, length-set}
use lib.Seq.{sets}
use Rattle.field_slots.proofs.ChainLaws.{length-put}
use Rattle.field_kept_lists.proofs.LabelLaws.{label_put}
use Rattle.field_kept_lists.proofs.list_area.put_label.Goals as goal

pub bounds-area-p-2 : goal.bounds-area-p-2
bounds-area-p-2 c = simp length-set (omega (arith, c.requires.0))

pub put_number-requires : goal.put_number-requires
put_number-requires c = (simp length-set (omega (arith, c.requires.0)), omega (arith, c.requires.3))

pub copy-requires : goal.copy-requires
copy-requires c =
    let e = ap length c.put_number.ensures ∙ length-put _ _ _ in
    (omega arith, omega (arith, simp length-set at e, c.requires.0, c.requires.1))

pub returns : goal.returns
returns c =
    let a = c.args in
    label_put _ _ _ _ _ c.requires.0 c.requires.1 _ (c.copy.ensures ∙ ap (λ w. sets w (a.p + 4) (take (length a.part.now)
    (drop 0 a.part.now))) c.put_number.ensures)
