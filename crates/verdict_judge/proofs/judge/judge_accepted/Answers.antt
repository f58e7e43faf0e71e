use mathlib.Core.Path.{sym}
use native.Mathlib.Omega.{arith}
use lib.Seq.{length-take-le}
use Rattle.terms.specs.Edition.{one}
use Rattle.terms.specs.Question.{check_of}
use Rattle.terms.proofs.RefusalNumbers.{accepted_length_in}
use Rattle.terms_bytes.specs.Writing.{Plain}
use Rattle.steps_lister.proofs.TidiedBodies.{tidied-fits, bodies_are_tidied}
use Rattle.verdict_judge.proofs.TidiedJudging.{judged-tidied}
use Rattle.verdict_judge.proofs.judge.judge_accepted.Goals as goal

-- src/judge.rt:118:9
pub judge_tidied-requires : goal.judge_tidied-requires
judge_tidied-requires c =
    (c.requires.0, c.requires.1, c.requires.2, c.has_tidied_bodies.ensures c.if-has_tidied_bodies.true)

-- src/judge.rt:118:9
pub returns-then-has_tidied_bodies : goal.returns-then-has_tidied_bodies
returns-then-has_tidied_bodies c = c.judge_tidied.ensures

-- src/judge.rt:121:9
pub tidy_bodies-n-requires : goal.tidy_bodies-n-requires
unfolding Plain check_of
tidy_bodies-n-requires c =
    record { accepted = c.requires.3; room = omega (arith, accepted_length_in one c.args.question.now c.requires.3.0 c.requires.3.1) }

-- src/judge.rt:122:18
pub slice_bounds-tidied-end : goal.slice_bounds-tidied-end
unfolding Plain
slice_bounds-tidied-end c =
    omega (arith, tidied-fits _ c.requires.3.0 c.requires.3.1 _ _ _ c.tidy_bodies-n.ensures)

-- src/judge.rt:122:18
pub slice_bounds-judge_tidied-end : goal.slice_bounds-judge_tidied-end
unfolding Plain
slice_bounds-judge_tidied-end c =
    sym (length-take-le _ _ (omega (arith, tidied-fits _ c.requires.3.0 c.requires.3.1 _ _ _ c.tidy_bodies-n.ensures)))

-- src/judge.rt:122:5
pub judge_tidied-requires-2 : goal.judge_tidied-requires-2
judge_tidied-requires-2 c =
    (c.requires.0, c.requires.1, c.requires.2, bodies_are_tidied _ _ _ _ c.requires.3 c.tidy_bodies-n.ensures)

-- src/judge.rt:113:1
pub returns : goal.returns
returns c =
    judged-tidied _ _ _ _ _ c.tidy_bodies-n.ensures _ _ _ _ c.judge_tidied-2.ensures
