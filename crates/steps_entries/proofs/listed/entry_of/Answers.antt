use lib.ListN.{length}
use native.Mathlib.Omega.{arith}
use Prim.Native.Nat.{◌+◌, ◌≤◌}
use Rattle.steps_entries.proofs.EntryLaws.{entry_room, entry-stored}
use Rattle.steps_entries.proofs.listed.entry_of.Goals as goal

pub copy-requires-2 : goal.copy-requires-2
copy-requires-2 c =
    let v = c.args in (
      let h : 0 + v.n ≤ length v.res.now = omega (arith, c.requires.1) in h,
      entry_room v.class.now v.action v.n c.requires.2 _
          c.copy.ensures,
    )

pub returns : goal.returns
returns c =
    let v = c.args in
    entry-stored v.class.now v.action v.res.now v.n c.requires.0 c.requires.1 c.requires.2 _ _ c.copy.ensures
    c.copy-2.ensures
