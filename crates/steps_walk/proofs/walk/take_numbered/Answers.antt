use Rattle.steps.specs.Limits.{most_steps}
use mathlib.Core.Path.{refl}
use native.Mathlib.Omega.{arith}
use Prim.Native.Nat.{◌+◌}
use borrow.Author.Rules.{rules}
use Rattle.terms.specs.Limits.{longest_term}
use Rattle.steps_tallies.specs.Tally.{silent_at}
use Rattle.steps_walk.proofs.ComponentLaws.{silent-start, silent_done, silent_next, silent-passed, silent-taken}
use Rattle.steps_walk.proofs.walk.take_numbered.Goals as goal

pub loop-j-init : goal.loop-j-init
loop-j-init c =
    let v = c.args in (
      search rules,
      refl,
      silent-start v.question.now v.part.now
          v.node.at v.node.depth v.node.number v.node.x v.area.now v.count,
    )

pub overflow_add-i : goal.overflow_add-i
unfolding silent_at
overflow_add-i c =
    let b = c.shared_slice_known-4-1.given (longest_term + c.args.node.at) in
    let e = c.silent_at-number.ensures in
    let h = c.requires.2 in
    let s = c.requires.0.1.0 in
    let i = c.requires.1 in
    let l = c.loop-j-test.true in
    omega arith

pub returns-in_err-n-clause-is : goal.returns-in_err-n-clause-is
returns-in_err-n-clause-is c =
    let v = c.args in
    rw c.from_residual.ensures (silent-passed v.question.now v.part.now v.node.at v.node.depth v.node.number v.node.x v.area.now v.count v.tally.now
    c.requires.0.1.1 c.loop-j.j c.loop-j.n c.loop-j.area c.loop-j.invariant.2 (rw c.silent_at-number.ensures at c.loop-j-test.true)
    (most_steps + 1) _ (silent-taken v.question.now v.part.now v.node.at v.node.depth v.node.number c.loop-j.j v.node.x
    c.loop-j.area c.loop-j.n (most_steps + 1) _ c.in_err-n.ensures.is) (omega arith))

pub loop-j-preserved : goal.loop-j-preserved
loop-j-preserved c =
    let v = c.args in (
      c.in_ok-n.ensures.few,
      search
          rules,
      silent_next v.question.now v.part.now v.node.at v.node.depth v.node.number v.node.x v.area.now v.count v.tally.now
          c.requires.0.1.1
          c.loop-j.j c.loop-j.n
          c.loop-j.area c.loop-j.invariant.2 (rw
          c.silent_at-number.ensures at c.loop-j-test.true)
          _ _ (silent-taken v.question.now v.part.now v.node.at v.node.depth v.node.number
          c.loop-j.j v.node.x c.loop-j.area
          c.loop-j.n _ _
          c.in_ok-n.ensures.is) (c.in_ok-n.ensures.few),
    )

pub returns-clause-is : goal.returns-clause-is
returns-clause-is c =
    let v = c.args in
    silent_done v.question.now v.part.now v.node.at v.node.depth v.node.number v.node.x v.area.now v.count v.tally.now
    c.requires.0.1.1 c.loop-j.j c.loop-j.n c.loop-j.area c.loop-j.invariant.2 (rw c.silent_at-number.ensures at
    c.loop-j-test.false) c.loop-j.invariant.0
