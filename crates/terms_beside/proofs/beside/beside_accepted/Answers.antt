use mathlib.Core.Path.{◌≡◌, sym, ap, ap₂, ◌∙◌}
use mathlib.Core.List.{List}
use Prim.Native.Nat.{ℕ}
use lib.ListN.{length}
use Rattle.std.proofs.lemmas.Bool.{not-true, not-false}
use Rattle.std.proofs.lemmas.Result.{err_from_is_err_and}
use Rattle.terms.specs.Edition.{Edition}
use Rattle.terms.specs.Limits.{name_count}
use Rattle.terms.specs.Question.{edition_of, question_with}
use Rattle.terms_bytes.specs.FieldPlaces.{field_place}
use Rattle.terms_bytes.specs.Writing.{IsAccepted}
use Rattle.terms_bytes.proofs.QuestionPlaces.{arities_in, sizes_in}
use Rattle.terms_bytes.specs.Refusals.{number_of}
use Rattle.terms_bytes.specs.declared.answer.Refusal.TheVariants.{TermLength, Parallel}
use Rattle.terms_scanning.specs.Scanning.{scanned_whole, whole_answer}
use Rattle.terms_converting.proofs.FittingLaws.{does_refused}
use Rattle.terms_beside.proofs.BesideChecks.{scanned_fault, scanned_end, sides_too_long, third_faulty, third_parallel, sides_test_lem}
use Rattle.terms_beside.proofs.beside.beside_accepted.Goals as goal

-- src/beside.rt:110:9
pub returns-then-not-sides_fit : goal.returns-then-not-sides_fit
unfolding IsAccepted question_with whole_answer number_of
returns-then-not-sides_fit c =
    let v = c.args in
    let s = v.question.now in
    let third = v.third.now in
    let room = length v.area.now in
    let q = c.requires.0 in
    let e = c.requires.1 in
    let x = c.field_place-first.ensures ∙ ap (field_place s) c.definitions.ensures.0 in
    let z = sizes_in (edition_of s) s q e c.field_place-first.result c.after_field-second.result x c.after_field-second.ensures in
    let f = c.sides_fit.ensures ∙ sides_test_lem s q e third room c.size_at.result c.size_at-2.result (c.size_at.ensures.0 ∙ z.0)
    (c.size_at-2.ensures.0 ∙ z.1) in
    does_refused _ _ TermLength (sides_too_long s q e third room (sym f ∙ c.if-not-sides_fit.true))

-- src/beside.rt:124:17
pub returns-then-not-c : goal.returns-then-not-c
unfolding IsAccepted question_with whole_answer number_of
returns-then-not-c c =
    let v = c.args in
    let s = v.question.now in
    let third = v.third.now in
    let room = length v.area.now in
    let q = c.requires.0 in
    let e = c.requires.1 in
    let x = c.field_place-first.ensures ∙ ap (field_place s) c.definitions.ensures.0 in
    let z = sizes_in (edition_of s) s q e c.field_place-first.result c.after_field-second.result x c.after_field-second.ensures in
    let f = c.sides_fit.ensures ∙ sides_test_lem s q e third room c.size_at.result c.size_at-2.result (c.size_at.ensures.0 ∙ z.0)
    (c.size_at-2.ensures.0 ∙ z.1) in
    let t = sym f ∙ c.if-not-sides_fit.false in
    let ar : c.arities.result.now ≡ q.arities = c.arities.ensures ∙ arities_in (edition_of s) s q e in
    let w = ap₂ (λ (ed : Edition) (l : List ℕ). scanned_whole ed name_count l 0 third) (sym c.is_counted.ensures) (sym ar) ∙ c.in_ok-c.ensures in
    let p = scanned_end (edition_of s) q.arities third _ w in
    does_refused _ _ Parallel (third_parallel s q e third room t p.0 p.1 (p.2 ∙ not-true _ c.if-not-c.true))

-- src/beside.rt:126:13
pub beside_allowed-requires : goal.beside_allowed-requires
unfolding IsAccepted question_with whole_answer
beside_allowed-requires c =
    let v = c.args in
    let s = v.question.now in
    let third = v.third.now in
    let room = length v.area.now in
    let q = c.requires.0 in
    let e = c.requires.1 in
    let x = c.field_place-first.ensures ∙ ap (field_place s) c.definitions.ensures.0 in
    let z = sizes_in (edition_of s) s q e c.field_place-first.result c.after_field-second.result x c.after_field-second.ensures in
    let f = c.sides_fit.ensures ∙ sides_test_lem s q e third room c.size_at.result c.size_at-2.result (c.size_at.ensures.0 ∙ z.0)
    (c.size_at-2.ensures.0 ∙ z.1) in
    let t = sym f ∙ c.if-not-sides_fit.false in
    let ar : c.arities.result.now ≡ q.arities = c.arities.ensures ∙ arities_in (edition_of s) s q e in
    let w = ap₂ (λ (ed : Edition) (l : List ℕ). scanned_whole ed name_count l 0 third) (sym c.is_counted.ensures) (sym ar) ∙ c.in_ok-c.ensures in
    let p = scanned_end (edition_of s) q.arities third _ w in
    record { old = q; accepted = e; part = p.0; reads = p.1; sizes = t; parallels = p.2 ∙ not-false _ c.if-not-c.false }

-- src/beside.rt:99:1
pub returns-in_err-c : goal.returns-in_err-c
unfolding IsAccepted question_with whole_answer
returns-in_err-c c =
    let v = c.args in
    let s = v.question.now in
    let third = v.third.now in
    let room = length v.area.now in
    let q = c.requires.0 in
    let e = c.requires.1 in
    let x = c.field_place-first.ensures ∙ ap (field_place s) c.definitions.ensures.0 in
    let z = sizes_in (edition_of s) s q e c.field_place-first.result c.after_field-second.result x c.after_field-second.ensures in
    let f = c.sides_fit.ensures ∙ sides_test_lem s q e third room c.size_at.result c.size_at-2.result (c.size_at.ensures.0 ∙ z.0)
    (c.size_at-2.ensures.0 ∙ z.1) in
    let t = sym f ∙ c.if-not-sides_fit.false in
    let ar : c.arities.result.now ≡ q.arities = c.arities.ensures ∙ arities_in (edition_of s) s q e in
    let w = ap₂ (λ (ed : Edition) (l : List ℕ). scanned_whole ed name_count l 0 third) (sym c.is_counted.ensures) (sym ar) ∙ c.in_err-c.ensures in
    let er = err_from_is_err_and c.from_residual.result c.from_residual.ensures.1 in
    rw (er.1, er.2) (does_refused _ _ _ (third_faulty s q e third room t _ (scanned_fault (edition_of s) q.arities third _ w)))

-- src/beside.rt:99:1
pub returns : goal.returns
returns c = c.beside_allowed.ensures
