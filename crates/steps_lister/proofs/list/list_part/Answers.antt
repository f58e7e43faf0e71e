use borrow.Author.Rules.{rules}
use mathlib.Core.Path.{sym}
use native.Mathlib.Omega.{arith}
use lib.Seq.{length-take-le}
use Rattle.terms.specs.Edition.{one}
use Rattle.terms.specs.Question.{check_of}
use Rattle.terms.proofs.RefusalNumbers.{accepted_length_in}
use Rattle.terms_bytes.specs.Writing.{Plain}
use Rattle.steps_lister.proofs.TidiedBodies.{tidied-fits, bodies_are_tidied}
use Rattle.steps_lister.proofs.TidiedListing.{list_under_tidied}
use Rattle.steps_lister.proofs.list.list_part.Goals as goal

-- src/list.rt:120:9
pub list_under-requires : goal.list_under-requires
list_under-requires c = (
  search rules,
  search rules,
  c.has_tidied_bodies.ensures c.if-has_tidied_bodies.true,
)

-- src/list.rt:120:9
pub returns-then-has_tidied_bodies : goal.returns-then-has_tidied_bodies
returns-then-has_tidied_bodies c = c.list_under.ensures

-- src/list.rt:123:9
pub tidy_bodies-n-requires : goal.tidy_bodies-n-requires
unfolding Plain check_of
tidy_bodies-n-requires c =
    record { accepted = c.requires.2; room = omega (arith, accepted_length_in one c.args.question.now c.requires.2.0 c.requires.2.1) }

-- src/list.rt:124:16
pub slice_bounds-tidied-end : goal.slice_bounds-tidied-end
unfolding Plain
slice_bounds-tidied-end c =
    omega (arith, tidied-fits _ c.requires.2.0 c.requires.2.1 _ _ _ c.tidy_bodies-n.ensures)

-- src/list.rt:124:16
pub slice_bounds-list_under-end : goal.slice_bounds-list_under-end
unfolding Plain
slice_bounds-list_under-end c =
    sym (length-take-le _ _ (omega (arith, tidied-fits _ c.requires.2.0 c.requires.2.1 _ _ _ c.tidy_bodies-n.ensures)))

-- src/list.rt:124:5
pub list_under-requires-2 : goal.list_under-requires-2
list_under-requires-2 c = (
  search rules,
  search rules,
  bodies_are_tidied _ _ _ _ c.requires.2
      c.tidy_bodies-n.ensures,
)

-- src/list.rt:115:1
pub returns : goal.returns
returns c =
    list_under_tidied _ _ _ _ c.tidy_bodies-n.ensures _ _ _ _ c.list_under-2.ensures
