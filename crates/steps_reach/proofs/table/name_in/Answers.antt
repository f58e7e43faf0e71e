use mathlib.Core.Path.{sym, ◌∙◌}
use native.Mathlib.Omega.{arith}
use Rattle.steps_reach.proofs.TableLaws.{name_free, name_far, name_there}
use Rattle.steps_reach.proofs.table.name_in.Goals as goal

pub returns-then-b-lt128 : goal.returns-then-b-lt128
returns-then-b-lt128 c = name_free _ _ _ _ c.if-b-lt128.true

pub returns-then-arity-j : goal.returns-then-arity-j
returns-then-arity-j c = let a = c.args in name_far a.table.now a.row a.arity a.b c.if-b-lt128.false c.if-arity-j.true

pub returns : goal.returns
returns c =
    let a = c.args in
    c.get.ensures ∙ sym (name_there a.table.now a.row a.arity a.b c.if-b-lt128.false (omega (arith, c.if-arity-j.false)))
