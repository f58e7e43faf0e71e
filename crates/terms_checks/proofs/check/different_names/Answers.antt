use Rattle.std.proofs.Common.{rules}
use Rattle.terms.specs.Question.{different_names_with}
use Rattle.terms_checks.proofs.check.different_names.Goals as goal

pub returns-then-b-lt-NAME_COUNT : goal.returns-then-b-lt-NAME_COUNT
unfolding different_names_with
returns-then-b-lt-NAME_COUNT c = search rules

pub returns-else-b-lt-NAME_COUNT : goal.returns-else-b-lt-NAME_COUNT
unfolding different_names_with
returns-else-b-lt-NAME_COUNT c = search rules
