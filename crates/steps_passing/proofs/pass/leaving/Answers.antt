use mathlib.Core.Path.{◌≡◌, sym, ◌∙◌}
use mathlib.Core.Bool.{true, false}
use Rattle.steps_passing.specs.Passing.{opens_at, leaving_at}
use Rattle.steps_passing.proofs.pass.leaving.Goals as goal

pub returns-then-opens : goal.returns-then-opens
unfolding leaving_at
returns-then-opens c =
    let v = c.args in
    let e : opens_at v.binders v.p.kind v.p.object ≡ true = sym c.opens.ensures ∙ c.if-opens.true in
    rw e

pub returns : goal.returns
unfolding leaving_at
returns c =
    let v = c.args in
    let e : opens_at v.binders v.p.kind v.p.object ≡ false = sym c.opens.ensures ∙ c.if-opens.false in
    rw e
