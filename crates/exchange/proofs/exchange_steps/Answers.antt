use Rattle.std.proofs.Common.{◌∙◌, ap}
use Rattle.verdict.specs.Outcome.{code_of}
use Rattle.exchange.proofs.ListedLaws.{of_steps_lem}
use Rattle.verdict.proofs.SmallOutcomes.{list_small}
use Rattle.exchange_codes.proofs.Numbered.{steps_numbered}
use Rattle.exchange.proofs.exchange_steps.Goals as goal

pub returns : goal.returns
returns c =
    record {
      answer =
          record {
            number = c.listed_code.ensures ∙ ap code_of (steps_numbered _ ∙ of_steps_lem _ _ c.steps.ensures.answer);
            small = list_small _ _ _ _;
          };
      left = c.steps.ensures.left;
    }
