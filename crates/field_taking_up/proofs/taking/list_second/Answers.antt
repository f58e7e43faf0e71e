use native.Mathlib.Omega.{arith}
use mathlib.Core.Path.{ap, subst}
use Prim.Native.Nat.{◌+◌, ◌*◌, ◌≤◌}
use lib.ListN.{length}
use Rattle.steps.specs.Limits.{step_bytes}
use Rattle.field_kept_lists.specs.ListArea.{ListIn}
use Rattle.field_kept_lists.proofs.ListAreaLaws.{labelled_by, list_copied, kept-copied, side_is}
use Rattle.field_taking_up.proofs.taking.list_second.Goals as goal

pub copy-requires : goal.copy-requires
copy-requires c =
    (omega (arith, c.requires.6.few, c.requires.4.room), omega (arith, c.requires.6.few, c.requires.7.room))

pub put_label-requires : goal.put_label-requires
put_label-requires c = (
  omega (arith, c.copy.auto.out, c.requires.7.room),
  omega (arith, ap length (c.same_part.ensures c.if-same_part.true), c.requires.5),
  c.requires.0,
  c.requires.6.few,
)

pub returns-then-same_part : goal.returns-then-same_part
returns-then-same_part c =
    let a = c.args in
    let list : ListIn a.question.now a.second.now a.x a.n a.firsts.now = subst (λ part. ListIn a.question.now part a.x a.n
    a.firsts.now) (c.same_part.ensures c.if-same_part.true) c.requires.6 in
    let there : 0 + step_bytes * a.n ≤ length a.firsts.now = omega (arith, c.requires.6.few, c.requires.4.room) in
    side_is _ _ _ _ _ (omega (arith, ap length (c.same_part.ensures c.if-same_part.true), c.requires.5)) (labelled_by _ _ _ _ _ _ (kept-copied _ _ _ _
    _ 0 _ _ list there c.requires.7.room c.copy.ensures c.requires.7.kept) (list_copied _ _ _ _ _ 0 _ _ list there c.requires.7.room
    c.copy.ensures) c.put_label.ensures (omega (arith, c.put_label.auto.area, c.copy.auto.out, c.requires.7.room)))

pub list_side-requires : goal.list_side-requires
list_side-requires c =
    (c.requires.0, c.requires.1, c.requires.2, c.requires.3, c.requires.4, c.requires.7)

pub returns : goal.returns
returns c = c.list_side.ensures
