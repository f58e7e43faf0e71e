use native.Mathlib.Omega.{arith}
use Rattle.field_kept_lists.specs.ListArea.{list_area}
use Rattle.field_kept_lists.proofs.ListAreaLaws.{no_part}
use Rattle.verdict_judge.proofs.DecideLaws.{unsettled_is, sole_all, same_is, different_is}
use borrow.Author.Rules.{rules}
use Rattle.verdict_judge.proofs.judge.decide.Goals as goal

pub explore-explored-requires : goal.explore-explored-requires
explore-explored-requires c =
    let g = c.requires in (
      g.0,
      g.1,
      g.2,
      c.body_tallies-bodies.ensures,
      search rules,
      search rules,
      no_part _
          list_area (omega arith),
      no_part _ list_area (omega arith),
    )

pub start_survives-requires : goal.start_survives-requires
start_survives-requires c =
    let g = c.requires in
    let w = c.explore-explored.ensures.0.within _ c.in-Some.is in (
      (w.0, w.1, g.1, omega (arith, g.2)),
      (c.body_tallies-bodies.ensures, search rules, search rules, c.explore-explored.ensures.1, c.explore-explored.ensures.2),
      sole_all _ _ _ _ _ _ _ c.names_differ-differ.ensures c.explore-explored.ensures.0 _ c.in-Some.is (omega (arith, g.2)),
    )

pub returns-then-start_survives : goal.returns-then-start_survives
returns-then-start_survives c =
    same_is _ _ _ _ _ _ _ c.names_differ-differ.ensures c.explore-explored.ensures.0 _ c.in-Some.is (omega (
      arith,
      c.requires.0,
      c.requires.1,
      c.requires.2,
    )) _ _ c.start_survives.ensures c.if-start_survives.true

pub returns-in_default : goal.returns-in_default
returns-in_default c =
    unsettled_is _ _ _ _ _ _ _ c.names_differ-differ.ensures c.explore-explored.ensures.0 c.in_default.is

pub returns : goal.returns
returns c =
    different_is _ _ _ _ _ _ _ c.names_differ-differ.ensures c.explore-explored.ensures.0 _ c.in-Some.is (omega (
      arith,
      c.requires.0,
      c.requires.1,
      c.requires.2,
    )) _ _ c.start_survives.ensures c.if-start_survives.false
