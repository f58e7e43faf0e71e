use Prim.Native.Nat.{◌-◌}
use lib.ListN.{length}
use Rattle.terms_renaming.proofs.rename.+rename_beneath.Given as goal

abbrev pub decreases-rename_beneath : goal.decreases-rename_beneath
decreases-rename_beneath l = length l.src.now - l.at
