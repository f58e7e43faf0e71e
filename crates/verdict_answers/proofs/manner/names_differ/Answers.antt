use mathlib.Core.Path.{sym, ap}
use Rattle.verdict.specs.Verdict.{differs}
use Rattle.verdict_answers.specs.Manners.{manner_of}
use Rattle.verdict_answers.proofs.manner.names_differ.Goals as goal

pub returns-in-Open : goal.returns-in-Open
unfolding differs manner_of
returns-in-Open c = ap (λ m. differs (manner_of m)) (sym c.in-Open.is)

pub returns-in-Late : goal.returns-in-Late
unfolding differs manner_of
returns-in-Late c = ap (λ m. differs (manner_of m)) (sym c.in-Late.is)

pub returns-in-Early : goal.returns-in-Early
unfolding differs manner_of
returns-in-Early c = ap (λ m. differs (manner_of m)) (sym c.in-Early.is)
