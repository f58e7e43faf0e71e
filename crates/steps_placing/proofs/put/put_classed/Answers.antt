use native.Mathlib.Omega.{arith}
use lib.ListN.{replicate}
use mathlib.Core.Path.{refl}
use Rattle.terms.specs.Limits.{longest_term}
use Rattle.steps_splicing.specs.Collecting.{counted}
use Rattle.steps.specs.Limits.{most_steps}
use Prim.Native.Nat.{◌+◌}
use Rattle.steps_placing.proofs.PutLaws.{classed_put, classed_silent, written_long}
use Rattle.steps_placing.proofs.WrittenLaws.{silent_long}
use borrow.Author.Rules.{rules}
use Rattle.steps_placing.proofs.put.put_classed.Goals as goal

pub put_silent-requires : goal.put_silent-requires
put_silent-requires c = (search rules, search rules, search rules, λ _. omega (arith, c.in-Some.ensures.room))

pub returns-then-candidate-clause-is : goal.returns-then-candidate-clause-is
returns-then-candidate-clause-is c =
    let a = c.args in
    classed_silent a.question.now a.part.now c.is_restricted-restricted.result (λ f. c.requires.0.1.3.plain (c.is_restricted-restricted.ensures f))
    a.step.candidate.silently a.step.candidate.number a.class.now a.step.action a.step.candidate.x a.area.now a.count
    (counted c.put_silent.result) _ (replicate longest_term 0) refl _ c.in-Some.m c.if-candidate.true c.own_names-own.result
    (c.own_names-own.ensures 0 (omega arith)) c.in-Some.ensures.is c.put_silent.ensures.is

pub put_written-requires : goal.put_written-requires
put_written-requires c = (search rules, search rules, search rules, λ _. omega (arith, c.in-Some-write_result.ensures.room))

pub returns-clause-is : goal.returns-clause-is
returns-clause-is c =
    let a = c.args in
    classed_put a.question.now a.part.now c.is_restricted-restricted.result (λ f. c.requires.0.1.3.plain (c.is_restricted-restricted.ensures f))
    a.step.candidate.silently a.step.candidate.number a.class.now a.step.action a.step.candidate.x a.area.now a.count
    (counted c.put_written.result) _ (replicate longest_term 0) refl _ c.in-Some-write_result.n c.in-Some-write_result.ensures.is c.put_written.ensures.is

pub returns-in_default-clause-is : goal.returns-in_default-clause-is
returns-in_default-clause-is c =
    let a = c.args in
    classed_silent a.question.now a.part.now c.is_restricted-restricted.result (λ f. c.requires.0.1.3.plain (c.is_restricted-restricted.ensures f))
    a.step.candidate.silently a.step.candidate.number a.class.now a.step.action a.step.candidate.x a.area.now a.count
    (most_steps + 1) _ (replicate longest_term 0) refl _ (longest_term + 1) c.if-candidate.true c.own_names-own.result
    (c.own_names-own.ensures 0 (omega arith)) c.in_default.ensures.is
    (silent_long _ _ _ _ _ _ _ _ _ _ (omega arith) (written_long _ _ _ _ _ _ _ _ (omega arith) c.if-restricted.false _))

pub returns-in_default-write_result-clause-is : goal.returns-in_default-write_result-clause-is
returns-in_default-write_result-clause-is c =
    let a = c.args in
    classed_put a.question.now a.part.now c.is_restricted-restricted.result (λ f. c.requires.0.1.3.plain (c.is_restricted-restricted.ensures f))
    a.step.candidate.silently a.step.candidate.number a.class.now a.step.action a.step.candidate.x a.area.now a.count
    (most_steps + 1) _ (replicate longest_term 0) refl _ (longest_term + 1) c.in_default-write_result.ensures.is
    (written_long _ _ _ _ _ _ _ _ (omega arith) c.if-restricted-2.false _)
