use native.Mathlib.Omega.{arith}
use Rattle.verdict_answers.specs.Striking.{NotesHold, none_struck}
use Rattle.verdict_strikeout.proofs.StrikeLaws.{start_goes, then_survives}
use Rattle.verdict_start.proofs.passes.survives_struck.Goals as goal

pub strike_until_stable-requires : goal.strike_until_stable-requires
unfolding NotesHold
strike_until_stable-requires c =
    (omega arith, c.requires.0, c.requires.1, c.requires.2, λ e. absurd (omega (arith, e)))

pub left_at-requires : goal.left_at-requires
left_at-requires c =
    omega (arith, c.requires.0.0, c.requires.0.1, c.requires.0.3, c.strike_until_stable.auto)

pub returns-then-not-left_at : goal.returns-then-not-left_at
returns-then-not-left_at c =
    start_goes _ _ _ _ _ _ _ _ _ none_struck c.strike_until_stable.ensures.0 c.left_at.ensures (c.if-not-left_at.true)

pub survives_passes-requires : goal.survives_passes-requires
survives_passes-requires c = (
  (c.requires.0.0, c.requires.0.1, c.requires.0.2, omega (arith, c.requires.0.3, c.strike_until_stable.auto)),
  (
    c.requires.1.0,
    omega (
      arith,
      c.requires.1.1,
      c.strike_until_stable.auto,
    ),
    omega (arith, c.requires.1.2, c.strike_until_stable.auto),
    c.strike_until_stable.ensures.1,
    c.strike_until_stable.ensures.2,
  ),
)

pub returns : goal.returns
returns c =
    then_survives _ _ _ _ _ _ _ _ c.strike_until_stable.ensures.0.strikes c.survives_passes.ensures
