use mathlib.Core.Path.{refl, sym, ◌∙◌}
use borrow.Author.Tests.{leb-true, leb-false}
use Rattle.steps_tallies.proofs.FrontLaws.{front-past, front_short, front_there}
use Rattle.steps_tallies.proofs.front.front_at.Goals as goal

pub returns-then-src-at : goal.returns-then-src-at
returns-then-src-at c =
    let v = c.args in
    front-past v.src.now v.at v.arities.now c.if-src-at.true

pub returns-then-not-room : goal.returns-then-not-room
returns-then-not-room c =
    let v = c.args in
    front_short v.src.now v.at v.arities.now c.shape_at-h.result c.shape_at-h.ensures c.if-src-at.false (leb-false _ _ (sym
    c.room.ensures ∙ c.if-not-room.true))

pub returns : goal.returns
returns c =
    let v = c.args in
    front_there v.src.now v.at v.arities.now c.shape_at-h.result c.shape_at-h.ensures c.if-src-at.false _ (leb-true _ _ (sym
    c.room.ensures ∙ c.if-not-room.false)) refl refl
