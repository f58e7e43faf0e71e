use Rattle.std.proofs.Common.{rules}
use Rattle.terms.specs.Question.{fits}
use Rattle.terms_checks.proofs.check.term_fits.Goals as goal

pub returns-then-bytes-ge1 : goal.returns-then-bytes-ge1
unfolding fits
returns-then-bytes-ge1 c = search rules

pub returns-else-bytes-ge1 : goal.returns-else-bytes-ge1
unfolding fits
returns-else-bytes-ge1 c = search rules
