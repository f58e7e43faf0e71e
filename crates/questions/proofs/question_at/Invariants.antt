use mathlib.Core.Path.{◌≡◌}
use Rattle.questions.specs.Questions.{question_place}
use Rattle.questions.proofs.question_at.Given as goal

abbrev pub invariant-loop-i : goal.invariant-loop-i
invariant-loop-i l = l.at ≡ question_place l.input l.i
