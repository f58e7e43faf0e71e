use native.Mathlib.Omega.{arith}
use Rattle.steps_entries.proofs.ArrangeLaws.{exchanged}
use Rattle.steps_entries.specs.Entries.{entry_from}
use Rattle.steps_entries.proofs.arrange.exchange.Goals as goal

pub returns : goal.returns
unfolding entry_from
returns c =
    let v = c.args in
    exchanged v.list.now v.i v.j c.requires.0 c.requires.1 _ _ _ _ _ (omega arith) c.copy.ensures c.copy-2.ensures
    c.copy-3.ensures c.copy-4.ensures
