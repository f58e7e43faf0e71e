use native.Mathlib.Omega.{arith}
use mathlib.Core.Path.{◌≡◌}
use lib.ListN.{length}
use Rattle.field_slots.specs.Noted.{noted_count}
use Rattle.verdict_notes.proofs.NoteLaws.{with_one, with_many, with_more}
use borrow.Author.Rules.{rules}
use Rattle.verdict_notes.proofs.relied.relied_with.Goals as goal

pub returns-then-contains : goal.returns-then-contains
returns-then-contains c = with_one _ _ c.requires.0 _ c.contains.ensures.value c.if-contains.true

pub returns-then-count-eq-NOTED : goal.returns-then-count-eq-NOTED
returns-then-count-eq-NOTED c =
    let l : length c.args.relied.slots ≡ noted_count = search rules in with_many _ _
    c.requires.0 (omega (arith, c.if-count-eq-NOTED.true)) l

pub returns : goal.returns
returns c =
    let g = c.requires in
    let l : length c.args.relied.slots ≡ noted_count = search rules in with_more _ _ g.0 g.1 l (omega
    (arith, g.0.used, c.if-count-eq-NOTED.false))
