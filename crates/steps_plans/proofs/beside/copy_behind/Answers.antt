use mathlib.Core.Path.{sym, ◌∙◌}
use native.Mathlib.Omega.{arith}
use borrow.Author.Tests.{leb-true, leb-false}
use Rattle.steps_plans.proofs.BesideLaws.{behind_stopped, behind-none, behind_full, behind-copied}
use Rattle.steps_plans.proofs.beside.copy_behind.Goals as goal

pub returns-then-out-put : goal.returns-then-out-put
returns-then-out-put c =
    let v = c.args in
    behind_stopped v.src.now v.tally.now v.at v.inner v.out.now v.put c.if-out-put.true

pub returns-then-end-from : goal.returns-then-end-from
returns-then-end-from c =
    let v = c.args in
    behind-none v.src.now v.tally.now v.at v.inner v.out.now v.put c.if-out-put.false (omega (
      arith,
      c.if-end-from.true,
      c.end_at-from.ensures,
      c.end_at-end.ensures,
    ))

pub returns-then-not-room : goal.returns-then-not-room
returns-then-not-room c =
    let v = c.args in
    behind_full v.src.now v.tally.now v.at v.inner v.out.now v.put c.if-out-put.false (c.requires.2 v.at c.requires.0).1
    c.end_at-from.result c.end_at-end.result c.end_at-from.ensures c.end_at-end.ensures (leb-false _ _ (sym c.room.ensures ∙ c.if-not-room.true))

pub copy-requires : goal.copy-requires
copy-requires c = (
  omega (arith, c.if-end-from.false, c.end_at-end.ensures, c.requires.2 c.args.at c.requires.0),
  leb-true _ _ (sym
      c.room.ensures ∙ c.if-not-room.false),
)

pub overflow_add-result-2 : goal.overflow_add-result-2
overflow_add-result-2 c =
    omega (arith, c.requires.1, c.end_at-end.ensures, c.requires.2 c.args.at c.requires.0, c.if-out-put.false, c.well_formed, c.ranges)

pub returns : goal.returns
returns c =
    let v = c.args in
    behind-copied v.src.now v.tally.now v.at v.inner v.out.now v.put c.if-out-put.false (c.requires.2 v.at c.requires.0).1
    c.end_at-from.result c.end_at-end.result c.end_at-from.ensures c.end_at-end.ensures (leb-true _ _ (sym c.room.ensures ∙ c.if-not-room.false)) _ c.copy.ensures
