-- The manner of judging as the code has it.
use Rattle.late_early.specs.LateEarly.{late, early}
use Rattle.verdict.specs.Verdict as verdict
use Rattle.verdict_answers.specs.declared.manner.Manner.{Manner}
use Rattle.verdict_answers.specs.declared.manner.Manner.TheVariants.{Open, Late, Early}

unfoldable pub manner_of : Manner → verdict.Manner
manner_of Open = verdict.openly
manner_of Late = verdict.named late
manner_of Early = verdict.named early
