use mathlib.Core.Path.{refl}
use borrow.Author.Tests.{lt-ltb, le-ltb}
use Rattle.steps_splicing.specs.Merging.{merged_byte}
use Rattle.steps_splicing.proofs.merged.merged_byte.Goals as goal

pub returns-then-b-lt128 : goal.returns-then-b-lt128
unfolding merged_byte
returns-then-b-lt128 c = rw (lt-ltb c.args.b 128 c.if-b-lt128.true) c.get.ensures

pub returns-else-b-lt128 : goal.returns-else-b-lt128
unfolding merged_byte
returns-else-b-lt128 c = rw (le-ltb c.args.b 128 c.if-b-lt128.false) refl
