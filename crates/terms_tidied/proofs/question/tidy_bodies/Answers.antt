use mathlib.Core.Path.{refl}
use native.Mathlib.Omega.{arith}
use Rattle.terms_tidied.specs.TidiedBodies.{WritesTidied}
use Rattle.terms_tidied.proofs.TidiedQuestion.{starts_within, rest_within, question_stored}
use Rattle.terms_tidied.proofs.question.tidy_bodies.Goals as goal

-- src/question.rt:52:5
pub copy-requires : goal.copy-requires
copy-requires c =
    let s = starts_within c.args.question.now c.args.out.now c.requires in
    (omega (arith, s, c.field_place-bodies.ensures), omega (arith, s, c.field_place-bodies.ensures, c.requires.room))

-- src/question.rt:56:16
pub overflow_sub-rest : goal.overflow_sub-rest
overflow_sub-rest c =
    (rest_within c.args.question.now c.args.out.now c.requires _ _ c.tidy_all-e.result c.tidy_all-e.ensures).0

-- src/question.rt:57:5
pub copy-requires-2 : goal.copy-requires-2
copy-requires-2 c =
    let w = rest_within c.args.question.now c.args.out.now c.requires _ _ c.tidy_all-e.result c.tidy_all-e.ensures in
    (omega (arith, w.0), omega (arith, w.0, w.1, c.tidy_all-e.auto.out, c.copy.auto.out, c.requires.room))

-- src/question.rt:58:5
pub overflow_add-result : goal.overflow_add-result
overflow_add-result c =
    let w = rest_within c.args.question.now c.args.out.now c.requires _ _ c.tidy_all-e.result c.tidy_all-e.ensures in
    omega (arith, w.0, w.1)

-- src/question.rt:47:1
pub returns : goal.returns
unfolding WritesTidied
returns c =
    let a = c.args in
    λ q h. question_stored a.question.now q h a.out.now _ _ _ c.field_place-bodies.result _ c.tidy_all-e.result c.requires.room
    c.field_place-bodies.ensures c.copy.ensures c.tidy_all-e.ensures c.copy-2.ensures refl
