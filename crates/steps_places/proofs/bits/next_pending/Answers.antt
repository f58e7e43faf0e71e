use Rattle.steps_places.proofs.BitLaws.{done_none, done_more, next_there, next_none}
use Rattle.steps_places.specs.PlaceWalks.{PendingIs}
use mathlib.Core.Path.{subst}
use borrow.Author.Rules.{rules}
use Rattle.steps_places.proofs.bits.next_pending.Goals as goal

pub loop-j-init : goal.loop-j-init
loop-j-init c = (search rules, done_none _ _)

pub returns-then-is_pending : goal.returns-then-is_pending
returns-then-is_pending c =
    let v = c.args in
    next_there v.set v.done c.loop-j.j c.loop-j-test.true (subst (PendingIs v.set v.done c.loop-j.j)
    c.if-is_pending.true c.is_pending.ensures)

pub loop-j-preserved : goal.loop-j-preserved
loop-j-preserved c =
    let v = c.args in (
      search rules,
      done_more v.set v.done c.loop-j.j (subst (PendingIs v.set v.done
          c.loop-j.j) c.if-is_pending.false c.is_pending.ensures) c.loop-j.invariant.1,
    )

pub returns : goal.returns
returns c =
    next_none c.args.set c.args.done c.loop-j.j c.loop-j-test.false c.loop-j.invariant.1
