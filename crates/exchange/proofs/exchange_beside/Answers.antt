use Rattle.std.proofs.Common.{◌∙◌, ap}
use Rattle.verdict.specs.Outcome.{code_of, of_number}
use Rattle.verdict.proofs.SmallOutcomes.{beside_small}
use Rattle.exchange_codes.proofs.Numbered.{written_numbered}
use Rattle.exchange.proofs.exchange_beside.Goals as goal

pub returns : goal.returns
returns c =
    record {
      answer = record { number = c.written_code.ensures ∙ ap (λ m. code_of (of_number m)) (written_numbered _ ∙ c.beside.ensures.answer); small = beside_small _ _ _ };
      left = c.beside.ensures.left;
    }
