use mathlib.Core.Path.{sym, ◌∙◌}
use Rattle.terms_converting.proofs.FittingLaws.{too_long, no_room, fitting_written}
use Rattle.terms_converting.proofs.question.write_fitting.Goals as goal

-- src/question.rt:87:9
pub returns-then-not-terms_fit : goal.returns-then-not-terms_fit
returns-then-not-terms_fit c =
    let a = c.args in
    too_long a.converted.now a.area.now (sym (c.if-not-terms_fit.true) ∙ c.terms_fit.ensures)

-- src/question.rt:91:9
pub returns-then-area-n : goal.returns-then-area-n
returns-then-area-n c =
    let a = c.args in
    no_room a.converted.now a.area.now (sym (c.if-not-terms_fit.false) ∙ c.terms_fit.ensures) c.if-area-n.true

-- src/question.rt:83:1
pub returns : goal.returns
returns c =
    let a = c.args in
    fitting_written a.converted.now a.area.now (sym (c.if-not-terms_fit.false) ∙ c.terms_fit.ensures) _ c.if-area-n.false
    c.copy.ensures
