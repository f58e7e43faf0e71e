use Rattle.field_slots.specs.Update.{KeepsPairs}
use Rattle.field_successors.proofs.LeadingLaws.{successor_is, successor-received}
use borrow.Author.Rules.{rules}
use Rattle.field_successors.proofs.results.successor.Goals as goal

pub returns-then-name-lt-NAME_COUNT : goal.returns-then-name-lt-NAME_COUNT
returns-then-name-lt-NAME_COUNT c =
    successor-received _ _ _ _ _ _ _ _ _ _ _ _ c.if-name-lt-NAME_COUNT.true (search rules)
    c.place_received.ensures c.complete.ensures

pub returns-then-keeps_pairs : goal.returns-then-keeps_pairs
unfolding KeepsPairs
returns-then-keeps_pairs c =
    successor_is _ _ _ _ _ _ _ _ _ _ _ _ _ c.if-name-lt-NAME_COUNT.false (search rules)
    c.place_results.ensures (c.keeps_pairs.ensures
    c.if-keeps_pairs.true _ _) c.complete-then-keeps_pairs.ensures

pub returns : goal.returns
returns c =
    successor_is _ _ _ _ _ _ _ _ _ _ _ _ _ c.if-name-lt-NAME_COUNT.false (search
    rules) c.place_results.ensures
    c.updated-new.ensures c.complete-2.ensures
