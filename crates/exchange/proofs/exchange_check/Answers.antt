use Rattle.std.proofs.Common.{sym, ◌∙◌, ap}
use Rattle.verdict.specs.Outcome.{code_of, of_number}
use Rattle.verdict.proofs.SmallOutcomes.{check_small}
use Rattle.exchange_codes.proofs.Numbered.{checked_numbered}
use Rattle.exchange.proofs.exchange_check.Goals as goal

pub returns : goal.returns
returns c =
    record { answer = record { number = c.checked_code.ensures ∙ ap (λ m. code_of (of_number m)) (checked_numbered _ ∙ sym c.check.ensures); small = check_small _ } }
