use mathlib.Core.Path.{◌≡◌, refl, sym, ap, subst, ◌∙◌}
use native.Mathlib.Omega.{arith}
use Prim.Native.Nat.{◌+◌, ◌≤◌}
use lib.ListN.{length, length-set}
use Rattle.terms.specs.Edition.{other}
use Rattle.terms.specs.Question.{Question, write_in}
use Rattle.terms.proofs.Answers.{result_injective}
use Rattle.terms_bytes.specs.Counted.{edition_from}
use Rattle.terms_bytes.specs.FieldPlaces.{field_place}
use Rattle.terms_converting.specs.Questions.{ConvertsTerms, ConvertsQuestion}
use Rattle.terms_converting.proofs.QuestionLaws.{sizes, question_stored}
use Rattle.terms_converting.proofs.question.convert_question.Goals as goal

-- src/question.rt:73:5
pub bounds-out-0 : goal.bounds-out-0
bounds-out-0 c =
    let a = c.args in
    let p = c.requires in
    let z = sizes a.question.now a.counted a.out.now p.old p.accepted _ refl in
    omega (arith, z.whole, p.room)

-- src/question.rt:74:23
pub overflow_sub-bodies : goal.overflow_sub-bodies
overflow_sub-bodies c =
    let a = c.args in
    let p = c.requires in
    let z = sizes a.question.now a.counted a.out.now p.old p.accepted _ refl in
    omega (arith, z.start, c.field_place-bodies.ensures)

-- src/question.rt:74:5
pub copy-requires : goal.copy-requires
copy-requires c =
    let a = c.args in
    let p = c.requires in
    let z = sizes a.question.now a.counted a.out.now p.old p.accepted _ refl in (
      omega (arith, z.start, z.head, c.field_place-bodies.ensures),
      simp length-set (omega (
        arith,
        z.start,
        z.whole,
        p.room,
        c.field_place-bodies.ensures,
      )),
    )

-- src/question.rt:75:9
pub convert_terms-put-requires : goal.convert_terms-put-requires
convert_terms-put-requires c =
    let a = c.args in
    let p = c.requires in
    let z = sizes a.question.now a.counted a.out.now p.old p.accepted _ refl in
    record { old = p.old; accepted = p.accepted; room = omega (arith, p.room, simp length-set at c.copy.auto.out) }

-- src/question.rt:77:16
pub overflow_sub-rest : goal.overflow_sub-rest
unfolding ConvertsTerms
overflow_sub-rest c =
    let a = c.args in
    let p = c.requires in
    let z = sizes a.question.now a.counted a.out.now p.old p.accepted c.field_place-apart.result (c.field_place-apart.ensures ∙ ap (λ n.
    field_place a.question.now (n + 2)) c.definitions.ensures.0) in
    let y = c.convert_terms-put.ensures p.old p.accepted in
    omega (arith, z.tail)

-- src/question.rt:78:5
pub copy-requires-2 : goal.copy-requires-2
unfolding ConvertsTerms
copy-requires-2 c =
    let a = c.args in
    let p = c.requires in
    let z = sizes a.question.now a.counted a.out.now p.old p.accepted c.field_place-apart.result (c.field_place-apart.ensures ∙ ap (λ
    n. field_place a.question.now (n + 2)) c.definitions.ensures.0) in
    let y = c.convert_terms-put.ensures p.old p.accepted in
    let l : length c.convert_terms-put.new.out ≡ length a.out.now = c.convert_terms-put.auto.out ∙ c.copy.auto.out ∙ simp
    length-set in
    (omega (arith, z.tail), omega (arith, z.tail, z.whole, z.start, y.0, p.room, l))

-- src/question.rt:79:5
pub overflow_add-result : goal.overflow_add-result
unfolding ConvertsTerms
overflow_add-result c =
    let a = c.args in
    let p = c.requires in
    let z = sizes a.question.now a.counted a.out.now p.old p.accepted c.field_place-apart.result (c.field_place-apart.ensures ∙ ap (λ
    n. field_place a.question.now (n + 2)) c.definitions.ensures.0) in
    let y = c.convert_terms-put.ensures p.old p.accepted in
    omega (arith, z.tail, z.whole, z.start, y.0, p.room)

-- src/question.rt:68:1
pub returns : goal.returns
unfolding ConvertsQuestion ConvertsTerms
returns c =
    let a = c.args in
    λ q h. let p = c.requires in let o : p.old ≡ q = result_injective (sym p.accepted ∙ h) in let y = c.convert_terms-put.ensures q h in
    question_stored a.question.now a.counted a.out.now q h c.other_version.result c.field_place-bodies.result
    c.field_place-apart.result c.convert_terms-put.result _ _ _ _ (subst (λ (x : Question). length (write_in (other (edition_from a.counted)) x) ≤
    length a.out.now) o p.room) c.other_version.ensures c.field_place-bodies.ensures c.copy.ensures y.0 y.1
    (c.field_place-apart.ensures ∙ ap (λ n. field_place a.question.now (n + 2)) c.definitions.ensures.0) c.copy-2.ensures
    refl
