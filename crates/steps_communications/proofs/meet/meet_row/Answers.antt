use borrow.Author.Rules.{rules}
use mathlib.Core.Path.{refl, ap}
use native.Mathlib.Omega.{arith}
use Prim.Native.Nat.{◌+◌, ◌*◌}
use Rattle.steps_rows.specs.Rows.{kind_at, channel_at, object_at}
use Rattle.std.specs.Prelude.{Some, None}
use Rattle.steps_communications.specs.Meeting.{met_or}
use Rattle.steps_communications.proofs.MeetRows.{paired_start, next_row, next_of, row-again, row_inner, pair_put, pair_passed, row_done}
use Rattle.steps_communications.proofs.meet.meet_row.Goals as goal

pub returns-then-kind-eq-REPEATED-clause-is : goal.returns-then-kind-eq-REPEATED-clause-is
unfolding kind_at
returns-then-kind-eq-REPEATED-clause-is c =
    let v = c.args in
    row-again v.question.now v.part.now v.node.at v.node.depth v.node.number v.node.x v.rows.now v.left.row
    v.left.left v.left.middle v.left.last v.left.first v.area.now v.left.count c.if-kind-eq-REPEATED.true

pub overflow_cast-channel : goal.overflow_cast-channel
overflow_cast-channel c =
    omega (arith, c.shared_slice_known-7-1.given (4 * c.args.left.row + 1))

pub returns-then-node-channel-clause-is : goal.returns-then-node-channel-clause-is
unfolding kind_at channel_at object_at
returns-then-node-channel-clause-is c =
    let v = c.args in
    row_inner v.question.now v.part.now v.node.at v.node.depth v.node.number v.node.x v.rows.now v.left.row
    v.left.left v.left.middle v.left.last v.left.first v.area.now v.left.count c.requires.0.0.0
    c.if-kind-eq-REPEATED.false c.if-node-channel.true

pub loop-next-init : goal.loop-next-init
unfolding kind_at channel_at object_at
loop-next-init c =
    let v = c.args in (
      search rules,
      refl,
      next_row v.question.now v.part.now v.node.at v.node.depth v.node.number v.node.x v.rows.now v.left.row
          v.left.left v.left.middle v.left.last v.left.first v.area.now v.left.count c.if-kind-eq-REPEATED.false c.if-node-channel.false
          v.left.count v.area.now (search rules) v.left.middle c.next_met-next.result (search rules) c.next_met-next.ensures.inside c.next_met-next.ensures.is
          (paired_start v.question.now v.part.now v.node.at v.node.depth v.node.number v.node.x v.rows.now v.left.row
          v.left.left v.left.middle v.left.last v.left.first v.area.now v.left.count),
    )

pub overflow_sub-right : goal.overflow_sub-right
overflow_sub-right c =
    let v = c.args in
    let i = next_of v.question.now v.part.now v.node.at v.node.depth v.node.number v.node.x v.rows.now v.left.row
    v.left.left v.left.middle v.left.last v.left.first v.area.now v.left.count c.loop-next.next (Some c.in-Some.w) c.in-Some.is c.loop-next.n c.loop-next.area c.loop-next.invariant.2 in
    i.0

pub take_pair-requires : goal.take_pair-requires
take_pair-requires c =
    let v = c.args in
    let g = c.requires in
    let i = next_of v.question.now v.part.now v.node.at v.node.depth v.node.number v.node.x v.rows.now v.left.row
    v.left.left v.left.middle v.left.last v.left.first v.area.now v.left.count c.loop-next.next (Some c.in-Some.w) c.in-Some.is c.loop-next.n c.loop-next.area c.loop-next.invariant.2 in
    (((c.loop-next.invariant.0, search rules), g.0.1), g.1, omega (arith, i.0, i.1))

pub returns-in_err-n-clause-is : goal.returns-in_err-n-clause-is
unfolding kind_at channel_at object_at
returns-in_err-n-clause-is c =
    let v = c.args in
    let i = next_of v.question.now v.part.now v.node.at v.node.depth v.node.number v.node.x v.rows.now v.left.row
    v.left.left v.left.middle v.left.last v.left.first v.area.now v.left.count c.loop-next.next (Some c.in-Some.w) c.in-Some.is c.loop-next.n c.loop-next.area c.loop-next.invariant.2 in
    rw c.from_residual.ensures (pair_passed v.question.now v.part.now v.node.at v.node.depth v.node.number v.node.x v.rows.now v.left.row
    v.left.left v.left.middle v.left.last v.left.first v.area.now v.left.count c.if-kind-eq-REPEATED.false c.if-node-channel.false c.in-Some.w
    c.loop-next.n c.loop-next.area i.2 i.0 i.1 i.3 _ _ c.in_err-n.ensures.is (omega arith))

pub loop-next-preserved : goal.loop-next-preserved
unfolding kind_at channel_at object_at
loop-next-preserved c =
    let v = c.args in
    let i = next_of v.question.now v.part.now v.node.at v.node.depth v.node.number v.node.x v.rows.now v.left.row
    v.left.left v.left.middle v.left.last v.left.first v.area.now v.left.count c.loop-next.next (Some c.in-Some.w) c.in-Some.is c.loop-next.n c.loop-next.area c.loop-next.invariant.2 in (
      c.in_ok-n.ensures.few,
      search rules,
      next_row v.question.now v.part.now v.node.at v.node.depth v.node.number v.node.x v.rows.now v.left.row
          v.left.left v.left.middle v.left.last v.left.first v.area.now v.left.count c.if-kind-eq-REPEATED.false c.if-node-channel.false
          _ _ c.in_ok-n.ensures.few (c.in-Some.w + 1) c.next_met-next-in-Some.result (omega (arith, i.0)) c.next_met-next-in-Some.ensures.inside c.next_met-next-in-Some.ensures.is
          (pair_put v.question.now v.part.now v.node.at v.node.depth v.node.number v.node.x v.rows.now v.left.row
          v.left.left v.left.middle v.left.last v.left.first v.area.now v.left.count c.if-kind-eq-REPEATED.false c.if-node-channel.false c.in-Some.w
          c.loop-next.n c.loop-next.area i.2 i.0 i.1 i.3 _ _ c.in_ok-n.ensures.is c.in_ok-n.ensures.few),
    )

pub loop-next-smaller : goal.loop-next-smaller
loop-next-smaller c =
    let v = c.args in
    let i = next_of v.question.now v.part.now v.node.at v.node.depth v.node.number v.node.x v.rows.now v.left.row
    v.left.left v.left.middle v.left.last v.left.first v.area.now v.left.count c.loop-next.next (Some c.in-Some.w) c.in-Some.is c.loop-next.n c.loop-next.area c.loop-next.invariant.2 in
    omega (arith, i.1, c.next_met-next-in-Some.ensures.is.on, ap (met_or v.left.last) c.in-Some.is)

pub returns-clause-is : goal.returns-clause-is
unfolding kind_at channel_at object_at
returns-clause-is c =
    let v = c.args in
    row_done v.question.now v.part.now v.node.at v.node.depth v.node.number v.node.x v.rows.now v.left.row
    v.left.left v.left.middle v.left.last v.left.first v.area.now v.left.count c.if-kind-eq-REPEATED.false c.if-node-channel.false v.left.last
    c.loop-next.n c.loop-next.area (next_of v.question.now v.part.now v.node.at v.node.depth v.node.number v.node.x v.rows.now v.left.row
    v.left.left v.left.middle v.left.last v.left.first v.area.now v.left.count c.loop-next.next None c.in_default.is c.loop-next.n c.loop-next.area c.loop-next.invariant.2)
    (omega arith) (omega arith) c.loop-next.invariant.0
