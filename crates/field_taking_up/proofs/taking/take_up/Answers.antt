use Rattle.field_taking_up.proofs.TakingLaws.{taken_up}
use Rattle.field_taking_up.proofs.taking.take_up.Goals as goal

pub list_sides-requires : goal.list_sides-requires
list_sides-requires c =
    (c.new_name-x.ensures.within, c.requires.1, c.requires.2, c.requires.3, c.requires.4, c.requires.5)

pub returns : goal.returns
returns c = (
  taken_up _ _ _ _ _ _ _ _ _ _ _ _ c.first_part-first.ensures c.second_part-second.ensures c.arities_of.ensures
      c.free_in_either-free.ensures c.new_name-x.ensures c.apart_flags.ensures c.list_sides.ensures.0,
  c.list_sides.ensures.1,
  c.list_sides.ensures.2,
)
