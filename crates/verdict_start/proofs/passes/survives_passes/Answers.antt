use native.Mathlib.Omega.{arith}
use borrow.Author.Rules.{rules}
use mathlib.Core.Path.{refl}
use Rattle.verdict_answers.specs.Striking.{NotesHold, none_struck, notes_changed}
use Rattle.verdict_strikeout.proofs.FieldKept.{noted-none}
use Rattle.verdict_notes.proofs.NoteLaws.{left_zero}
use Rattle.verdict_strikeout.proofs.StrikeLaws.{strikes_then, pass_all, start_goes, start_stays}
use Rattle.verdict_start.proofs.passes.survives_passes.Goals as goal

pub clear_notes-requires : goal.clear_notes-requires
clear_notes-requires c =
    omega (arith, c.requires.0.1, c.requires.0.3)

pub loop-search-init : goal.loop-search-init
unfolding NotesHold
loop-search-init c = (
  refl,
  search rules,
  search rules,
  c.requires.1.3,
  c.requires.1.4,
  none_struck,
  refl,
  refl,
  refl,
  refl,
  noted-none _ _ _ _ _ _ c.clear_notes.ensures,
)

pub strike_blocks-struck-requires : goal.strike_blocks-struck-requires
strike_blocks-struck-requires c = (
  omega arith,
  (c.requires.0.0, c.requires.0.1, c.requires.0.2, omega (arith, c.requires.0.3, c.loop-search.invariant.0, c.clear_notes.auto)),
  (c.requires.1.0, c.loop-search.invariant.1, c.loop-search.invariant.2, c.loop-search.invariant.3, c.loop-search.invariant.4),
  c.loop-search.invariant.10,
)

pub left_at-requires : goal.left_at-requires
left_at-requires c =
    omega (arith, c.requires.0.0, c.requires.0.1, c.requires.0.3, c.loop-search.invariant.0, c.clear_notes.auto, c.strike_blocks-struck.auto)

pub returns-then-not-left_at : goal.returns-then-not-left_at
returns-then-not-left_at c =
    start_goes _ _ _ _ _ _ _ _ _ (strikes_then _ _ _ _ (notes_changed none_struck c.clear_notes.ensures.spare) c.loop-search.invariant.5)
    c.strike_blocks-struck.ensures.0 c.left_at.ensures (c.if-not-left_at.true)

pub loop-search-smaller : goal.loop-search-smaller
loop-search-smaller c = c.strike_blocks-struck.ensures.0.fewer (c.if-not-struck.false)

pub loop-search-preserved : goal.loop-search-preserved
loop-search-preserved c = (
  omega (arith, c.loop-search.invariant.0, c.strike_blocks-struck.auto),
  omega (arith, c.loop-search.invariant.1, c.strike_blocks-struck.auto),
  omega (
    arith,
    c.loop-search.invariant.2,
    c.strike_blocks-struck.auto,
  ),
  c.strike_blocks-struck.ensures.1,
  c.strike_blocks-struck.ensures.2,
  strikes_then _ _ _ _
      c.loop-search.invariant.5 c.strike_blocks-struck.ensures.0.strikes,
  omega (arith, c.loop-search.invariant.6, c.strike_blocks-struck.auto),
  omega (
    arith,
    c.loop-search.invariant.7,
    c.strike_blocks-struck.auto,
  ),
  omega (arith, c.loop-search.invariant.8, c.strike_blocks-struck.auto),
  omega (
    arith,
    c.loop-search.invariant.9,
    c.strike_blocks-struck.auto,
  ),
  c.strike_blocks-struck.ensures.0.noted,
)

pub returns-then-not-struck : goal.returns-then-not-struck
returns-then-not-struck c =
    start_stays _ _ _ _ _ _
    (strikes_then _ _ _ _ (strikes_then _ _ _ _ (notes_changed none_struck c.clear_notes.ensures.spare) c.loop-search.invariant.5) c.strike_blocks-struck.ensures.0.strikes)
    (left_zero _ _ _ c.left_at.ensures (c.if-not-left_at.false)) (pass_all _ _ _ _ c.strike_blocks-struck.ensures.0 (c.if-not-struck.true))
