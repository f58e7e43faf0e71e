use Rattle.field_successors.proofs.LeadingLaws.{places_first, places_second}
use Rattle.field_successors.proofs.results.place_results.Goals as goal

pub returns-then-second : goal.returns-then-second
returns-then-second c =
    places_second _ _ _ _ _ _ _ c.if-second.true _ _ c.rewrite_result.ensures c.copy_result.ensures

pub returns : goal.returns
returns c =
    places_first _ _ _ _ _ _ _ c.if-second.false _ _ c.copy_result-2.ensures c.rewrite_result-2.ensures
