use mathlib.Core.Path.{◌≡◌}
use Prim.Native.Nat.{◌+◌, ◌-◌, ◌≤◌, max}
use lib.ListN.{length, drop}
use Rattle.terms_scanning.specs.Scanning.{behind_names}
use Rattle.terms_scanning.proofs.scan.scan_names.Given as goal

abbrev pub invariant-loop-i : goal.invariant-loop-i
invariant-loop-i l = (l.i ≤ l.count) × (l.from + l.i ≤ max l.from (length l.src)) × (behind_names l.free l.depth l.count (drop l.from l.src) ≡ behind_names l.free l.depth (l.count - l.i) (drop (l.from + l.i) l.src))
