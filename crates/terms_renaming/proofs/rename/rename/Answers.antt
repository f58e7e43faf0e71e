use Rattle.terms_renaming.proofs.RenamingWalk.{renamed-whole}
use Rattle.terms_renaming.proofs.rename.rename.Goals as goal

pub returns : goal.returns
returns c =
    let a = c.args in
    renamed-whole a.src.now a.at a.arities.now a.table.now a.out.now a.put _ _ c.rename_beneath-e.ensures.is
