use native.Mathlib.Omega.{arith}
use mathlib.Core.Path.{refl, ap, ◌∙◌}
use Rattle.steps_labels.specs.LabelWalk.{slot_at}
use Rattle.steps_rows.proofs.RowWalks.{prefix_sends, prefix-other}
use Rattle.steps_rows.proofs.rows.scan_prefix.Goals as goal

pub prefix_kind-kind-requires : goal.prefix_kind-kind-requires
prefix_kind-kind-requires c =
    (omega (arith, c.get-t.ensures, c.requires.1), omega (arith, c.get-t.ensures, c.requires.2))

pub returns-then-t-eq-OUTPUT : goal.returns-then-t-eq-OUTPUT
returns-then-t-eq-OUTPUT c =
    let v = c.args in
    prefix_sends v.src.now v.at v.asked v.args.now v.inner v.depth _ _ _ _ c.get-t.ensures c.prefix_kind-kind.ensures
    (c.slot-channel.ensures ∙ (ap (slot_at v.args.now v.inner v.depth) c.get.ensures)) v.n v.rows.now _ _
    c.put_row.ensures c.if-t-eq-OUTPUT.true (c.slot-object.ensures ∙ (ap (slot_at v.args.now v.inner v.depth)
    c.get-then-t-eq-OUTPUT.ensures))

pub returns : goal.returns
returns c =
    let v = c.args in
    prefix-other v.src.now v.at v.asked v.args.now v.inner v.depth _ _ _ _ c.get-t.ensures c.prefix_kind-kind.ensures
    (c.slot-channel.ensures ∙ (ap (slot_at v.args.now v.inner v.depth) c.get.ensures)) v.n v.rows.now _ _
    c.put_row-2.ensures c.if-t-eq-OUTPUT.false refl
