use mathlib.Core.Path.{◌≡◌}
use mathlib.Core.List.{map}
use Prim.Native.Nat.{◌≤◌}
use lib.ListN.{take}
use lib.Seq.{sets}
use Rattle.terms_bytes.proofs.Stores.{span}
use Rattle.terms_bytes.specs.NameTable.{renamed_byte}
use Rattle.terms_renaming.proofs.rename.rename_bytes.Given as goal

abbrev pub invariant-loop-i : goal.invariant-loop-i
invariant-loop-i l = (l.i ≤ l.n) × (l.out ≡ sets l.initial.out l.put (take l.i (map (renamed_byte l.inner l.table) (span l.src l.at l.n))))
