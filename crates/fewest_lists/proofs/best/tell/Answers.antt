use Rattle.fewest_lists.proofs.BestLaws.{tells_unsettled, tells_none, tells_list}
use Rattle.fewest_lists.proofs.best.tell.Goals as goal

pub returns-in-None : goal.returns-in-None
returns-in-None c = tells_none _ _ _ c.in-Ok.is c.in-None.is

pub returns-in-Some : goal.returns-in-Some
returns-in-Some c =
    tells_list _ _ _ c.in-Some.flags c.in-Ok.is c.in-Some.is c.requires _ _ c.write_pairs.ensures

pub returns-in_default : goal.returns-in_default
returns-in_default c = tells_unsettled _ _ _ c.in_default.is
