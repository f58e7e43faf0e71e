use mathlib.Core.Path.{sym, ◌∙◌}
use native.Mathlib.Omega.{arith}
use Rattle.fewest_search.proofs.ApartLaws.{names-refused, area_refused, search_told}
use Rattle.fewest_search.proofs.apart.apart_accepted.Goals as goal

pub returns-then-not-names_given : goal.returns-then-not-names_given
returns-then-not-names_given c =
    let v = c.args in
    names-refused v.question.now v.capacity v.names.now v.work.now v.area.now c.requires.0 c.requires.1 (sym (c.if-not-names_given.true) ∙ c.names_given.ensures)

pub returns-then-area-lt-LONGEST_APART : goal.returns-then-area-lt-LONGEST_APART
returns-then-area-lt-LONGEST_APART c =
    let v = c.args in
    area_refused v.question.now v.capacity v.names.now v.work.now v.area.now c.requires.0 c.requires.1 (sym (c.if-not-names_given.false) ∙ c.names_given.ensures) (omega arith)

pub find-best-requires : goal.find-best-requires
find-best-requires c = c.requires

pub tell-requires : goal.tell-requires
tell-requires c = omega arith

pub returns : goal.returns
returns c =
    let v = c.args in
    search_told v.question.now v.capacity v.names.now v.work.now v.area.now c.requires.0 c.requires.1 (sym (c.if-not-names_given.false) ∙ c.names_given.ensures) (omega arith) c.find-best.result _ c.find-best.ensures c.tell.result _ c.tell.ensures
