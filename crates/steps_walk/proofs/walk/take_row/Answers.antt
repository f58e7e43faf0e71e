use Rattle.steps_splicing.specs.Collecting.{counted}
use mathlib.Core.Path.{sym, ◌∙◌}
use native.Mathlib.Omega.{arith}
use Rattle.steps_rows.specs.Rows.{kind_at, channel_at, object_at}
use Rattle.steps_walk.proofs.ComponentLaws.{row-again, row-taken, row-blocked, row-placed, row_opened}
use Rattle.steps_walk.proofs.walk.take_row.Goals as goal

pub returns-then-kind-eq-REPEATED-clause-is : goal.returns-then-kind-eq-REPEATED-clause-is
unfolding kind_at
returns-then-kind-eq-REPEATED-clause-is c =
    let v = c.args in
    row-again v.question.now v.part.now v.node.at v.node.depth v.rows.now v.own.first v.own.number v.node.x
    v.area.now v.own.count (sym c.get-kind.ensures ∙ c.if-kind-eq-REPEATED.true)

pub returns-then-channel-ge-NAME_COUNT-clause-is : goal.returns-then-channel-ge-NAME_COUNT-clause-is
unfolding kind_at channel_at object_at
returns-then-channel-ge-NAME_COUNT-clause-is c =
    let v = c.args in
    row-blocked v.question.now v.part.now v.node.at v.node.depth v.rows.now v.own.first v.own.number v.node.x
    v.area.now v.own.count c.get-kind.result c.get-channel.result c.get-object.result c.get-kind.ensures c.get-channel.ensures c.get-object.ensures
    c.if-kind-eq-REPEATED.false c.if-channel-ge-NAME_COUNT.true c.requires.0.0.0

pub returns-then-kind-ge-MATCHED-clause-is : goal.returns-then-kind-ge-MATCHED-clause-is
unfolding kind_at
returns-then-kind-ge-MATCHED-clause-is c =
    let v = c.args in
    row-taken v.question.now v.part.now v.node.at v.node.depth v.rows.now v.own.first v.own.number v.node.x
    v.area.now v.own.count (λ e. c.if-kind-eq-REPEATED.false (c.get-kind.ensures ∙ e)) (counted c.take_candidate.result) _ c.take_candidate.ensures.is

pub returns-then-row_opens-clause-is : goal.returns-then-row_opens-clause-is
unfolding kind_at channel_at object_at
returns-then-row_opens-clause-is c =
    let v = c.args in
    row_opened v.question.now v.part.now v.node.at v.node.depth v.rows.now v.own.first v.own.number v.node.x
    v.area.now v.own.count c.get-kind.result c.get-channel.result c.get-object.result c.get-kind.ensures c.get-channel.ensures
    c.get-object.ensures c.if-kind-eq-REPEATED.false c.if-channel-ge-NAME_COUNT.false (omega (arith, c.if-kind-ge-MATCHED.false)) (counted c.put_classed.result) _ (sym c.row_opens.ensures ∙
    c.if-row_opens.true) _ (c.own_names-class.ensures 0 (omega arith)) c.put_classed.ensures.is

pub put_placed-requires : goal.put_placed-requires
put_placed-requires c =
    let h = c.requires.2 in
    (c.requires.0, c.requires.1, omega arith)

pub returns-clause-is : goal.returns-clause-is
unfolding kind_at channel_at object_at
returns-clause-is c =
    let v = c.args in
    row-placed v.question.now v.part.now v.node.at v.node.depth v.rows.now v.own.first v.own.number v.node.x
    v.area.now v.own.count c.get-kind.result c.get-channel.result c.get-object.result c.get-kind.ensures c.get-channel.ensures
    c.get-object.ensures c.if-kind-eq-REPEATED.false c.if-channel-ge-NAME_COUNT.false (omega (arith, c.if-kind-ge-MATCHED.false)) (counted c.put_placed.result) _ (sym c.row_opens.ensures ∙
    c.if-row_opens.false) c.row_object.result c.row_object.ensures c.put_placed.ensures.is
