use Prim.Native.Nat.{◌≤◌}
use borrow.Author.Rules.{rules}
use native.Mathlib.Omega.{arith}
use Rattle.steps_lister.proofs.OperationLaws.{into_unsettled, into_count}
use Rattle.steps.specs.Limits.{most_steps}
use Rattle.steps_lister.proofs.operation.list_into.Goals as goal

pub overflow_mul-n : goal.overflow_mul-n
overflow_mul-n c =
    let few : c.in_ok-n.n ≤ most_steps = c.list_part.ensures.few c.in_ok-n.n c.in_ok-n.was in
    omega arith

pub copy-requires : goal.copy-requires
copy-requires c =
    let few : c.in_ok-n.n ≤ most_steps = c.list_part.ensures.few
    c.in_ok-n.n c.in_ok-n.was in (search rules, search rules)

pub returns-in_err-n : goal.returns-in_err-n
returns-in_err-n c =
    let v = c.args in
    rw c.from_residual.ensures (into_unsettled v.question.now v.part.now v.x _ v.area.now c.requires.0 c.list_part.result c.in_err-n.was
    c.list_part.ensures)

pub returns : goal.returns
returns c =
    let v = c.args in
    into_count v.question.now v.part.now v.x _ v.area.now c.requires.0 c.in_ok-n.n c.list_part.result
    c.in_ok-n.was c.list_part.ensures _ c.copy.ensures
