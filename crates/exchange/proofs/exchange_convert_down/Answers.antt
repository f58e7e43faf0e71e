use Rattle.std.proofs.Common.{◌∙◌, ap}
use Rattle.terms.specs.Edition.{one}
use Rattle.terms_bytes.specs.Counted.{edition_from}
use Rattle.verdict.specs.Outcome.{code_of, of_number}
use Rattle.verdict.proofs.SmallOutcomes.{convert_small}
use Rattle.exchange_codes.proofs.Numbered.{written_numbered}
use Rattle.exchange.proofs.exchange_convert_down.Goals as goal

pub returns : goal.returns
unfolding edition_from
returns c =
    record {
      answer = record { number = c.written_code.ensures ∙ ap (λ m. code_of (of_number m)) (written_numbered _ ∙ c.convert.ensures.answer); small = convert_small one _ _ };
      left = c.convert.ensures.left;
    }
