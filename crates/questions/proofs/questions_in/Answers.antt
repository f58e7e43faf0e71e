use mathlib.Core.Path.{refl}
use Rattle.questions.specs.Questions.{questions_of}
use Rattle.questions.proofs.questions_in.Goals as goal

pub returns : goal.returns
unfolding questions_of
returns c = rw c.get.ensures refl
