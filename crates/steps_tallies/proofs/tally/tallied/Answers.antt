use mathlib.Core.Path.{refl}
use borrow.Author.Tests.{le-leb, lt-leb}
use Rattle.steps_tallies.specs.Tallying.{tallied_entry, nothing_at, entry_at}
use Rattle.steps_tallies.proofs.tally.tallied.Goals as goal

pub returns-then-size-at : goal.returns-then-size-at
unfolding tallied_entry nothing_at
returns-then-size-at c = rw c.nothing.ensures (simp (le-leb _ _ c.if-size-at.true))

pub returns : goal.returns
unfolding tallied_entry entry_at
returns c =
    rw (lt-leb _ _ c.if-size-at.false, c.visible_at.ensures, c.silent_at.ensures, c.end_at.ensures) refl
