use Rattle.std.proofs.Common.{◌∙◌, ap}
use Rattle.verdict.specs.Outcome.{code_of}
use Rattle.fewest.proofs.SmallOutcome.{apart_small}
use Rattle.exchange_codes.proofs.Numbered.{apart_numbered}
use Rattle.exchange.proofs.exchange_apart.Goals as goal

pub returns : goal.returns
returns c =
    record {
      answer = record { number = c.apart_code.ensures ∙ ap code_of (apart_numbered _ ∙ c.apart.ensures.answer); small = apart_small _ _ _ _ _ };
      cleared = c.apart.ensures.cleared;
      left = c.apart.ensures.left;
    }
