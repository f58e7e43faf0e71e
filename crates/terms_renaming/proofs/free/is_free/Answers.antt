use mathlib.Core.Path.{sym, ◌∙◌}
use borrow.Author.Tests.{le-ltb}
use Rattle.terms_renaming.specs.FreeFlags.{FreeFlagsOf, IsFreeOf}
use Rattle.terms_renaming.proofs.FreeTests.{free_test, none_free}
use Rattle.terms_renaming.proofs.free.is_free.Goals as goal

pub returns-then-x-lt-NAME_COUNT : goal.returns-then-x-lt-NAME_COUNT
unfolding FreeFlagsOf IsFreeOf
returns-then-x-lt-NAME_COUNT c =
    λ P scope whole. rw c.get.ensures (free_test P _ (c.free_names.ensures P scope whole) c.args.x c.if-x-lt-NAME_COUNT.true)

pub returns-else-x-lt-NAME_COUNT : goal.returns-else-x-lt-NAME_COUNT
unfolding IsFreeOf
returns-else-x-lt-NAME_COUNT c = λ P scope whole. le-ltb _ _ c.if-x-lt-NAME_COUNT.false ∙ sym (none_free _ P scope _ c.if-x-lt-NAME_COUNT.false)
