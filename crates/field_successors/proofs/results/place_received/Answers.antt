use Rattle.field_successors.proofs.LeadingLaws.{received-first, received-second}
use Rattle.field_successors.proofs.results.place_received.Goals as goal

pub returns-then-second : goal.returns-then-second
returns-then-second c =
    received-second _ _ _ _ _ _ _ _ _ c.requires.2 c.get-x.ensures c.if-second.true _ _ c.receive_result.ensures
    c.receive_result-then-second.ensures

pub returns : goal.returns
returns c =
    received-first _ _ _ _ _ _ _ _ _ c.requires.2 c.get-x.ensures c.if-second.false _ _ c.receive_result-2.ensures
    c.receive_result-3.ensures
