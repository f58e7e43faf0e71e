use mathlib.Core.Path.{sym, ap, ◌∙◌}
use native.Mathlib.Omega.{arith}
use borrow.Author.Rules.{rules}
use mathlib.Core.Logic.{inl, inr}
use mathlib.Core.Bool.{not}
use lib.ListN.{length}
use Rattle.terms.specs.Operations.{merged_question}
use Rattle.terms.specs.Question.{edition_of, question_with}
use Rattle.terms_bytes.specs.FieldPlaces.{field_place}
use Rattle.terms_bytes.specs.Writing.{IsAccepted, Plain, WritesMerged}
use Rattle.terms_bytes.specs.Refusals.{number_of}
use Rattle.terms_bytes.specs.declared.answer.Refusal.TheVariants.{MergedNames, ResultArea}
use Rattle.terms_bytes.proofs.CountedLaws.{is_two, is_one}
use Rattle.terms_bytes.proofs.QuestionPlaces.{apart_in}
use Rattle.terms_converting.proofs.FittingLaws.{does_refused, does_write}
use Rattle.terms_converting.proofs.PlainForm.{own-counted, own_plain}
use Rattle.terms_merging.specs.Counted.{WritesMergedCounted}
use Rattle.terms_merging.proofs.MergeChecks.{merge_turned, merge_short, merge_writes, name_too_large, may_merge_lem}
use Rattle.terms_merging.proofs.MergeCounted.{merged-own-length, writes_as}
use Rattle.terms_merging.proofs.merge.merge_accepted.Goals as goal

pub returns-then-a : goal.returns-then-a
unfolding IsAccepted number_of
returns-then-a c =
    let v = c.args in
    let s = v.question.now in
    let q = c.requires.0 in
    let e = c.requires.1 in
    let a = v.a in
    let b = v.b in
    let room = length v.area.now in
    does_refused _ _ MergedNames (merge_turned s q e a b room (name_too_large s q e a b room (inl c.if-a.true)))

pub returns-then-b : goal.returns-then-b
unfolding IsAccepted number_of
returns-then-b c =
    let v = c.args in
    let s = v.question.now in
    let q = c.requires.0 in
    let e = c.requires.1 in
    let a = v.a in
    let b = v.b in
    let room = length v.area.now in
    does_refused _ _ MergedNames (merge_turned s q e a b room (name_too_large s q e a b room (inr c.if-b.true)))

pub returns-then-holds_apart : goal.returns-then-holds_apart
unfolding IsAccepted question_with number_of
returns-then-holds_apart c =
    let v = c.args in let s = v.question.now in let q =
    c.requires.0 in let e =
    c.requires.1 in let a = v.a in let b = v.b in let room =
    length v.area.now in let x = c.field_place-first.ensures ∙ ap (field_place s)
    c.definitions.ensures.0 in let p = apart_in (edition_of s) s q e
    c.field_place-first.result c.after_field-second.result
    c.after_field.result x c.after_field-second.ensures
    c.after_field.ensures in let t = c.holds_apart.ensures q.apart (c.field_at-pairs.ensures ∙
    p) in let h = may_merge_lem s q e a b room c.holds_apart.result t (search rules) (search rules) in let l = merged-own-length s q e a b in
    does_refused _ _ MergedNames (merge_turned s q e a b room (h ∙ ap not c.if-holds_apart.true))

pub returns-then-area-question : goal.returns-then-area-question
unfolding IsAccepted question_with number_of
returns-then-area-question c =
    let v = c.args in let s = v.question.now in let
    q = c.requires.0 in let e =
    c.requires.1 in let a = v.a in let b = v.b in let
    room = length v.area.now in let x = c.field_place-first.ensures ∙ ap (field_place s)
    c.definitions.ensures.0 in let p = apart_in (edition_of s) s q e
    c.field_place-first.result c.after_field-second.result
    c.after_field.result x c.after_field-second.ensures
    c.after_field.ensures in let t = c.holds_apart.ensures q.apart
    (c.field_at-pairs.ensures ∙ p) in let h = may_merge_lem s q e a b room c.holds_apart.result t (search rules)
    (search rules) in let l = merged-own-length s q e a b in does_refused _ _ ResultArea (merge_short s q e a b room (h ∙ ap not c.if-holds_apart.false)
    (omega (arith, l)))

pub write_merged_counted-requires : goal.write_merged_counted-requires
unfolding IsAccepted question_with
write_merged_counted-requires c =
    let v = c.args in let s =
    v.question.now in let q =
    c.requires.0 in let e =
    c.requires.1 in let a = v.a
    in let b = v.b in let room = length v.area.now in let x =
    c.field_place-first.ensures ∙ ap (field_place s)
    c.definitions.ensures.0 in let p = apart_in (edition_of s) s q
    e c.field_place-first.result
    c.after_field-second.result
    c.after_field.result x
    c.after_field-second.ensures
    c.after_field.ensures in let t =
    c.holds_apart.ensures q.apart (c.field_at-pairs.ensures ∙
    p) in let h = may_merge_lem s q e a b room c.holds_apart.result t (search rules) (search rules) in let l =
    merged-own-length s q e a b in let ck = own-counted s q c.is_counted.result c.is_counted.ensures
    c.if-is_counted.true e in record {
      old = q;
      accepted = ck;
      small = search rules;
      small' = search rules;
      not_apart = sym t ∙
          c.if-holds_apart.false;
      room = search rules;
    }

pub returns-then-is_counted : goal.returns-then-is_counted
unfolding IsAccepted WritesMergedCounted question_with
returns-then-is_counted c =
    let v =
    c.args
    in let s = v.question.now in let q =
    c.requires.0
    in let e =
    c.requires.1
    in let a = v.a in let b = v.b in let room = length v.area.now in let x =
    c.field_place-first.ensures ∙ ap (field_place s)
    c.definitions.ensures.0 in let p =
    apart_in (edition_of s) s q e
    c.field_place-first.result
    c.after_field-second.result
    c.after_field.result x
    c.after_field-second.ensures
    c.after_field.ensures in let t =
    c.holds_apart.ensures q.apart
    (c.field_at-pairs.ensures ∙ p) in let h = may_merge_lem s q e a b room
    c.holds_apart.result t (search rules) (search rules) in let l =
    merged-own-length s q e a b in let ck = own-counted s q c.is_counted.result
    c.is_counted.ensures c.if-is_counted.true e in does_write (edition_of s) _ _
    _ (merged_question a b q) _ (merge_writes s q e a b room (h ∙ ap not c.if-holds_apart.false) (omega
    (arith, l, c.if-area-question.false))) (writes_as _ _ _ _ _ _ (sym (is_two _
    c.if-is_counted.true) ∙ c.is_counted.ensures)
    (c.write_merged_counted.ensures q ck))

pub write_merged-requires : goal.write_merged-requires
unfolding IsAccepted Plain question_with
write_merged-requires c =
    let v = c.args in let s =
    v.question.now in let q =
    c.requires.0 in let e =
    c.requires.1 in let a = v.a
    in let b = v.b in let room = length v.area.now in let x =
    c.field_place-first.ensures ∙ ap (field_place s)
    c.definitions.ensures.0 in let p = apart_in (edition_of s) s q
    e c.field_place-first.result
    c.after_field-second.result
    c.after_field.result x
    c.after_field-second.ensures
    c.after_field.ensures in let t =
    c.holds_apart.ensures q.apart (c.field_at-pairs.ensures ∙
    p) in let h = may_merge_lem s q e a b room c.holds_apart.result t (search rules) (search rules) in let l =
    merged-own-length s q e a b in let ck = own_plain s q c.is_counted.result c.is_counted.ensures
    c.if-is_counted.false e in record { accepted = (q, ck); small = search rules; small' = search rules; room = search rules }

pub returns : goal.returns
unfolding IsAccepted WritesMerged question_with
returns c =
    let v =
    c.args
    in let s = v.question.now in let q =
    c.requires.0
    in let e =
    c.requires.1
    in let a = v.a in let b = v.b in let room = length v.area.now in let x =
    c.field_place-first.ensures ∙ ap (field_place s)
    c.definitions.ensures.0 in let p =
    apart_in (edition_of s) s q e
    c.field_place-first.result
    c.after_field-second.result
    c.after_field.result x
    c.after_field-second.ensures
    c.after_field.ensures in let t =
    c.holds_apart.ensures q.apart
    (c.field_at-pairs.ensures ∙ p) in let h = may_merge_lem s q e a b room
    c.holds_apart.result t (search rules) (search rules) in let l =
    merged-own-length s q e a b in let ck = own_plain s q c.is_counted.result
    c.is_counted.ensures c.if-is_counted.false e in does_write (edition_of s) _ _
    _ (merged_question a b q) _ (merge_writes s q e a b room (h ∙ ap not c.if-holds_apart.false) (omega
    (arith, l, c.if-area-question.false))) (writes_as _ _ _ _ _ _ (sym (is_one _
    c.if-is_counted.false) ∙ c.is_counted.ensures)
    (c.write_merged.ensures q ck))
