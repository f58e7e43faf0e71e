use Prim.Native.Nat.{◌+◌}
use native.Mathlib.Omega.{arith}
use Rattle.steps.specs.Limits.{most_steps}
use Rattle.steps_lister.proofs.WalkedList.{list_passed, list_given}
use Rattle.steps_walk.proofs.WalkLaws.{walk_part}
use borrow.Author.Rules.{rules}
use Rattle.steps_lister.proofs.list.list_tidied.Goals as goal

pub walk-requires : goal.walk-requires
walk-requires c =
    let p = c.requires in
    let t = c.tally.ensures in
    (((search rules, search rules), (search rules, t.is, p.0.2, record { plain = λ e. p.1.plain (t.noted e) })), search rules, search rules, search rules, search rules)

pub returns-in_err-walked : goal.returns-in_err-walked
returns-in_err-walked c =
    let v = c.args in
    rw c.from_residual.ensures (list_passed v.question.now v.part.now v.x v.area.now (most_steps + 1) _ (walk_part v.question.now v.part.now
    v.x _ _ v.area.now (record { rows = 0; count = most_steps + 1 }) _ c.in_err-walked.ensures.is) (omega arith))

pub returns : goal.returns
returns c =
    let v = c.args in
    list_given v.question.now v.part.now v.x v.area.now
    c.in_ok-walked.walked.count _ (walk_part v.question.now v.part.now
    v.x _ _ v.area.now c.in_ok-walked.walked _
    c.in_ok-walked.ensures.is) c.in_ok-walked.ensures.few _ c.arrange.ensures
