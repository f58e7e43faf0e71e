use native.Mathlib.Omega.{arith}
use Rattle.steps_equal_branches.proofs.BranchLaws.{branch_not, branch_same, branch_plain}
use Rattle.steps_equal_branches.proofs.same.same_branch.Goals as goal

pub overflow_mul-behind : goal.overflow_mul-behind
overflow_mul-behind c = omega (arith, c.chain_length-m.ensures.inside)

pub overflow_add-behind : goal.overflow_add-behind
overflow_add-behind c = omega (arith, c.chain_length-m.ensures.inside)

pub overflow_mul-end : goal.overflow_mul-end
overflow_mul-end c = omega (arith, c.chain_length-n.ensures.inside)

pub overflow_add-end : goal.overflow_add-end
overflow_add-end c = omega (arith, c.chain_length-n.ensures.inside)

pub returns-then-end-behind : goal.returns-then-end-behind
returns-then-end-behind c =
    let v = c.args in
    branch_not v.src.now v.p v.at v.arities.now v.args.now v.inner v.depth

pub same_term-requires : goal.same_term-requires
same_term-requires c =
    let w = c.requires.2 in
    (omega arith, c.requires.1, omega arith)

pub returns-in_default : goal.returns-in_default
returns-in_default c =
    let v = c.args in
    branch_not v.src.now v.p v.at v.arities.now v.args.now v.inner v.depth

pub returns-then-n-eq0 : goal.returns-then-n-eq0
returns-then-n-eq0 c =
    let v = c.args in
    branch_plain v.src.now v.p v.at v.arities.now v.args.now v.inner v.depth c.chain_length-m.result
    c.chain_length-n.result c.chain_length-m.ensures c.chain_length-n.ensures c.in-Some.k (λ z. let p = c.in-Some.ensures.some in omega arith)
    c.in-Some.ensures.is c.if-n-eq0.true

pub same_condition-requires : goal.same_condition-requires
same_condition-requires c =
    let w = c.requires.2 in
    let i = c.in-Some.ensures.is.inside in
    let k = c.in-Some.ensures.some in
    let l = c.if-end-behind.false in
    (omega arith, omega arith, c.requires.1, omega arith)

pub returns : goal.returns
returns c =
    let v = c.args in
    branch_same v.src.now v.p v.at v.arities.now v.args.now v.inner v.depth c.chain_length-m.result
    c.chain_length-n.result c.chain_length-m.ensures c.chain_length-n.ensures c.in-Some.k (λ z. let p = c.in-Some.ensures.some in omega arith)
    c.in-Some.ensures.is c.same_condition.result c.same_condition.ensures
