use native.Mathlib.Omega.{arith}
use mathlib.Core.Path.{refl}
use Rattle.verdict_notes.proofs.NoteLaws.{noting_start, noting_next, noted-all}
use borrow.Author.Rules.{rules}
use Rattle.verdict_notes.proofs.relied.note.Goals as goal

pub loop-k-init : goal.loop-k-init
loop-k-init c = (search rules, refl, noting_start _ _ _)

pub put_note-requires : goal.put_note-requires
put_note-requires c =
    (omega (arith, c.loop-k.invariant.1, c.requires.0), c.loop-k-test.true, c.requires.1.small _ c.loop-k-test.true)

pub loop-k-preserved : goal.loop-k-preserved
loop-k-preserved c = (
  search rules,
  search rules,
  noting_next _ _ _ _ _ _ c.loop-k-test.true (omega (
    arith,
    c.loop-k.invariant.1,
    c.requires.0,
  ))
      c.put_note.ensures c.loop-k.invariant.2,
)

pub returns : goal.returns
returns c = noted-all _ _ _ _ _ (omega arith) c.loop-k.invariant.2
