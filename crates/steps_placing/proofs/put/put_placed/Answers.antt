use native.Mathlib.Omega.{arith}
use lib.ListN.{replicate}
use mathlib.Core.Path.{refl}
use Rattle.terms.specs.Limits.{longest_term}
use Rattle.steps_splicing.specs.Collecting.{counted}
use Rattle.steps.specs.Limits.{most_steps}
use Prim.Native.Nat.{◌+◌}
use Rattle.steps_placing.proofs.PutLaws.{placed-put, placed-tidied, written_long}
use borrow.Author.Rules.{rules}
use Rattle.steps_placing.proofs.put.put_placed.Goals as goal

pub returns-then-restricted-clause-is : goal.returns-then-restricted-clause-is
returns-then-restricted-clause-is c =
    let a = c.args in
    placed-tidied a.question.now a.part.now a.place.at a.place.depth a.place.first a.step.candidate.silently
    a.step.candidate.number a.step.action a.step.candidate.x a.area.now a.count (counted c.put_tidied.result) _
    c.own_names-class.result (c.own_names-class.ensures 0 (omega arith)) c.put_tidied.ensures.is

pub put_written-requires : goal.put_written-requires
put_written-requires c =
    (search rules, search rules, search rules, λ _. c.in-Some.ensures.room)

pub returns-clause-is : goal.returns-clause-is
returns-clause-is c =
    let a = c.args in
    placed-put a.question.now a.part.now a.place.at a.place.depth a.place.first a.step.candidate.silently
    a.step.candidate.number a.step.action a.step.candidate.x a.area.now a.count (counted c.put_written.result) _
    c.own_names-class.result (c.own_names-class.ensures 0 (omega arith)) c.is_restricted-restricted.result (λ f. c.requires.0.1.3.plain (c.is_restricted-restricted.ensures f))
    (replicate longest_term 0) refl _ c.in-Some.n c.in-Some.ensures.is c.put_written.ensures.is

pub returns-in_default-clause-is : goal.returns-in_default-clause-is
returns-in_default-clause-is c =
    let a = c.args in
    placed-put a.question.now a.part.now a.place.at a.place.depth a.place.first a.step.candidate.silently
    a.step.candidate.number a.step.action a.step.candidate.x a.area.now a.count (most_steps + 1) _
    c.own_names-class.result (c.own_names-class.ensures 0 (omega arith)) c.is_restricted-restricted.result (λ f. c.requires.0.1.3.plain (c.is_restricted-restricted.ensures f))
    (replicate longest_term 0) refl _ (longest_term + 1) c.in_default.ensures.is (written_long _ _ _ _ _ _ _ _ (omega arith) c.if-restricted.false _)
