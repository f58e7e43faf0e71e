use Rattle.small_parts_words.proofs.WritingLaws.{byte_low, byte_high}
use borrow.Author.Rules.{rules}
use Rattle.small_parts_words.proofs.words.byte_of.Goals as goal

pub returns-then-digit-lt10 : goal.returns-then-digit-lt10
returns-then-digit-lt10 c = byte_low c.args.digit (search rules)

pub returns : goal.returns
returns c = byte_high c.args.digit (search rules)
