use native.Mathlib.Omega.{arith}
use lib.ListN.{length}
use Rattle.terms.specs.Operations.{beside_question}
use Rattle.terms.specs.Question.{edition_of}
use Rattle.terms_bytes.specs.Writing.{WritesBeside}
use Rattle.terms_bytes.specs.Refusals.{number_of}
use Rattle.terms_bytes.specs.declared.answer.Refusal.TheVariants.{ResultArea}
use Rattle.terms_converting.proofs.FittingLaws.{does_refused, does_write}
use Rattle.terms_beside.proofs.BesideChecks.{third_bytes_lem, written-length, beside_short, beside_writes, sides_bounds}
use Rattle.terms_beside.proofs.beside.beside_allowed.Goals as goal

pub overflow_add-more : goal.overflow_add-more
overflow_add-more c =
    let v = c.args in
    let s = v.question.now in
    let third = v.third.now in
    let room = length v.area.now in
    let q = c.requires.old in
    let e = c.requires.accepted in
    let b = sides_bounds s q e third room c.requires.sizes in
    omega (arith, b, c.well_formed)

pub overflow_add-more-2 : goal.overflow_add-more-2
overflow_add-more-2 c =
    let v = c.args in
    let s = v.question.now in
    let third = v.third.now in
    let room = length v.area.now in
    let q = c.requires.old in
    let e = c.requires.accepted in
    let b = sides_bounds s q e third room c.requires.sizes in
    omega (arith, b, c.well_formed)

pub overflow_add-question : goal.overflow_add-question
overflow_add-question c =
    let v = c.args in
    let s = v.question.now in
    let third = v.third.now in
    let room = length v.area.now in
    let q = c.requires.old in
    let e = c.requires.accepted in
    let b = sides_bounds s q e third room c.requires.sizes in
    omega (arith, b, c.well_formed)

pub returns-then-area-question : goal.returns-then-area-question
unfolding number_of
returns-then-area-question c =
    let v = c.args in
    let s = v.question.now in
    let third = v.third.now in
    let room = length v.area.now in
    let q = c.requires.old in
    let e = c.requires.accepted in
    let b = sides_bounds s q e third room c.requires.sizes in
    let t = third_bytes_lem (edition_of s) q.arities third c.requires.part c.requires.reads in
    let l = written-length s q e third c.requires.part t in
    does_refused _ _ ResultArea (beside_short s q e third room c.requires.sizes c.requires.part c.requires.reads c.requires.parallels (omega (
      arith,
      l,
      c.if-area-question.true,
    )))

pub write_beside-requires : goal.write_beside-requires
write_beside-requires c =
    let v = c.args in
    let s = v.question.now in
    let third = v.third.now in
    let room = length v.area.now in
    let q = c.requires.old in
    let e = c.requires.accepted in
    let b = sides_bounds s q e third room c.requires.sizes in
    record { old = q; accepted = e; first = b.0; second = b.1; room = omega (arith, c.if-area-question.false) }

pub returns : goal.returns
unfolding WritesBeside
returns c =
    let v = c.args in
    let s = v.question.now in
    let third = v.third.now in
    let room = length v.area.now in
    let q = c.requires.old in
    let e = c.requires.accepted in
    let b = sides_bounds s q e third room c.requires.sizes in
    let t = third_bytes_lem (edition_of s) q.arities third c.requires.part c.requires.reads in
    let l = written-length s q e third c.requires.part t in
    does_write (edition_of s) _ _ _ (beside_question c.requires.part q) _ (beside_writes s q e third room c.requires.sizes c.requires.part c.requires.reads
    c.requires.parallels (omega (arith, l, c.if-area-question.false))) (c.write_beside.ensures q c.requires.part e t)
