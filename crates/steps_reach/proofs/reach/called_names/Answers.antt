use Rattle.steps_reach.proofs.CallWalks.{called_names_are}
use Rattle.steps_reach.proofs.reach.called_names.Goals as goal

pub returns : goal.returns
returns c =
    let a = c.args in
    called_names_are a.question.now a.src.now a.at a.count a.table.now a.row c.arities_of.result.now c.get-k.result
    c.get-arity.result c.names_in.result c.arities_of.ensures c.get-k.ensures c.get-arity.ensures c.names_in.ensures
