use mathlib.Core.Path.{sym}
use native.Mathlib.Omega.{arith}
use lib.Seq.{length-take-le}
use Rattle.steps_lister.proofs.TidiedListing.{short_front, restricted, list_as_it_is, list_restricted}
use borrow.Author.Rules.{rules}
use Rattle.steps_lister.proofs.list.list_tallied.Goals as goal

pub is_tidied_part-requires : goal.is_tidied_part-requires
is_tidied_part-requires c = c.any_restriction-restricted.ensures

pub list_tidied-requires : goal.list_tidied-requires
list_tidied-requires c = (
  (search rules, search rules, search rules, search rules, search rules),
  c.any_restriction-restricted.ensures,
)

-- src/list.rt:95:9
pub returns-then-is_tidied_part : goal.returns-then-is_tidied_part
returns-then-is_tidied_part c =
    list_as_it_is _ _ _ _ _ (c.is_tidied_part.ensures c.if-is_tidied_part.true) c.list_tidied.ensures

-- src/list.rt:100:35
pub slice_bounds-tidied-end : goal.slice_bounds-tidied-end
slice_bounds-tidied-end c = omega (arith, c.tidy-ends.ensures.room)

-- src/list.rt:100:35
pub slice_bounds-list_tidied-end : goal.slice_bounds-list_tidied-end
slice_bounds-list_tidied-end c = sym (length-take-le _ _ (omega (arith, c.tidy-ends.ensures.room)))

-- src/list.rt:100:5
pub list_tidied-requires-2 : goal.list_tidied-requires-2
list_tidied-requires-2 c = (
  (search rules, short_front _ _ _ _ c.tidy-ends.ensures, search rules, search rules, search rules),
  restricted _ _,
)

-- src/list.rt:82:1
pub returns : goal.returns
returns c =
    list_restricted _ _ _ _ c.arities_of.ensures _ _ c.tidy-ends.ensures _ _ c.list_tidied-2.ensures
