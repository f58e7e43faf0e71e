use mathlib.Core.Path.{sym}
use Rattle.steps_equal_branches.proofs.ChoiceLaws.{other_trivial, trivial_is}
use Rattle.steps_rows.proofs.rows.is_trivial.Goals as goal

pub returns-then-src-at-ne-MATCH : goal.returns-then-src-at-ne-MATCH
returns-then-src-at-ne-MATCH c =
    let v = c.args in
    sym (other_trivial v.src.now v.args.now v.inner v.depth v.at c.if-src-at-ne-MATCH.true)

pub returns : goal.returns
returns c =
    let v = c.args in
    trivial_is v.src.now v.args.now v.inner v.depth v.at c.if-src-at-ne-MATCH.false c.get.result c.slot-u.result c.get.ensures
    c.slot-u.ensures c.get-2.result c.slot-v.result c.get-2.ensures c.slot-v.ensures
