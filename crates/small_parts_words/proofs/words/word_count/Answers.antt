use mathlib.Core.Path.{◌∙◌}
use native.Mathlib.Omega.{arith}
use Rattle.small_parts_words.proofs.PartLaws.{count_power, count_few}
use Rattle.small_parts_words.proofs.words.word_count.Goals as goal

pub pow-requires : goal.pow-requires
pow-requires c = omega (arith, count_power c.args.size (omega arith), count_few c.args.size (omega arith))

pub returns : goal.returns
returns c = c.pow.ensures ∙ count_power c.args.size (omega arith)
