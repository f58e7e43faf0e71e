use native.Mathlib.Omega.{arith}
use borrow.Author.Rules.{rules}
use Rattle.field_slots.proofs.ChainLaws.{search_start, search_end, search_broken, search_found, search_next}
use Rattle.field_slots.proofs.chains.find_chained.Goals as goal

pub loop-link-init : goal.loop-link-init
loop-link-init c =
    (search rules, search_start _ _ _ c.args.key.now _ _ c.bucket.ensures c.size_at-link.ensures.0)

pub returns-then-left-link : goal.returns-then-left-link
returns-then-left-link c = search_broken _ _ _ _ c.loop-link.link c.loop-link.left (omega arith) c.loop-link.invariant.1

pub returns-then-same_key : goal.returns-then-same_key
returns-then-same_key c = search_found _ _ _ _ _ _ (omega arith) c.if-same_key.true c.same_key.ensures

pub loop-link-preserved : goal.loop-link-preserved
loop-link-preserved c = (
  search rules,
  search_next _ _ _ _ c.loop-link.link c.loop-link.left
      _ _ (omega arith) (omega arith) (omega arith) c.if-same_key.false c.same_key.ensures c.size_at-link-in-loop-link.ensures.0
      c.loop-link.invariant.1,
)

pub returns : goal.returns
returns c = search_end _ _ _ _ c.loop-link.link c.loop-link.left (omega arith) c.loop-link.invariant.1
