use mathlib.Core.Path.{refl}
use native.Mathlib.Omega.{arith}
use lib.ListN.{length-set}
use Rattle.steps_rows.proofs.RowWalks.{row_over, row_put}
use Rattle.steps_rows.proofs.rows.put_row.Goals as goal

pub returns-then-n-ge-MOST_ROWS : goal.returns-then-n-ge-MOST_ROWS
returns-then-n-ge-MOST_ROWS c =
    let v = c.args in
    row_over v.kind v.channel v.object v.n v.rows.now c.if-n-ge-MOST_ROWS.true c.requires.0

pub bounds-rows-at-2 : goal.bounds-rows-at-2
bounds-rows-at-2 c = let h = c.requires.1 in rw length-set (omega (arith, c.if-n-ge-MOST_ROWS.false))

pub bounds-rows-at-3 : goal.bounds-rows-at-3
bounds-rows-at-3 c = let h = c.requires.1 in rw (length-set, length-set) (omega (arith, c.if-n-ge-MOST_ROWS.false))

pub returns : goal.returns
returns c =
    let v = c.args in
    row_put v.kind v.channel v.object v.n v.rows.now _ refl c.if-n-ge-MOST_ROWS.false c.requires.1
