use mathlib.Core.Path.{sym}
use borrow.Author.Tests.{eq-eqb, ne_eqb, le-leb, lt-leb}
use Rattle.terms.specs.Limits.{name_count}
use Rattle.steps_equal_branches.proofs.ChoiceLaws.{other-failing, failing_is}
use Rattle.steps_rows.proofs.rows.is_failing.Goals as goal

pub returns-then-src-at-ne-MATCH : goal.returns-then-src-at-ne-MATCH
returns-then-src-at-ne-MATCH c =
    let v = c.args in
    sym (other-failing v.src.now v.args.now v.inner v.depth v.at c.if-src-at-ne-MATCH.true)

pub returns-then-u-v : goal.returns-then-u-v
returns-then-u-v c =
    let v = c.args in
    let f = failing_is v.src.now v.args.now v.inner v.depth v.at c.if-src-at-ne-MATCH.false c.get.result c.slot-u.result
    c.get.ensures c.slot-u.ensures c.get-2.result c.slot-v.result c.get-2.ensures c.slot-v.ensures in
    rw (eq-eqb c.slot-u.result c.slot-v.result c.if-u-v.true) at f

pub returns-then-u-ge-NAME_COUNT : goal.returns-then-u-ge-NAME_COUNT
returns-then-u-ge-NAME_COUNT c =
    let v = c.args in
    let f = failing_is v.src.now v.args.now v.inner v.depth v.at c.if-src-at-ne-MATCH.false c.get.result c.slot-u.result
    c.get.ensures c.slot-u.ensures c.get-2.result c.slot-v.result c.get-2.ensures c.slot-v.ensures in
    rw (ne_eqb c.slot-u.result c.slot-v.result c.if-u-v.false, le-leb name_count c.slot-u.result c.if-u-ge-NAME_COUNT.true) at f

pub returns : goal.returns
returns c =
    let v = c.args in
    let f = failing_is v.src.now v.args.now v.inner v.depth v.at c.if-src-at-ne-MATCH.false c.get.result c.slot-u.result
    c.get.ensures c.slot-u.ensures c.get-2.result c.slot-v.result c.get-2.ensures c.slot-v.ensures in
    rw (ne_eqb c.slot-u.result c.slot-v.result c.if-u-v.false, lt-leb name_count c.slot-u.result c.if-u-ge-NAME_COUNT.false) at f
