use Rattle.verdict_answers.specs.Manners.{manner_of}
use Rattle.verdict_judge.proofs.judge.judge.Goals as goal

pub returns : goal.returns
unfolding manner_of
returns c = c.judge_as.ensures
