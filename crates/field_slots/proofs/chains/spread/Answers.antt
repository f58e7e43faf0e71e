use Rattle.field_slots.proofs.ChainLaws.{spread_is}
use native.Mathlib.Omega.{arith}
use Prim.Native.Nat.{◌-◌}
use Rattle.field_pairs.specs.Slot.{key_bytes, part_room}
use borrow.Author.Rules.{rules}
use Rattle.field_slots.proofs.chains.spread.Goals as goal

pub overflow_cast-last : goal.overflow_cast-last
overflow_cast-last c = omega (arith, c.shared_slice_known-2-1.given (key_bytes - 1))

pub overflow_cast-key : goal.overflow_cast-key
overflow_cast-key c = omega (arith, c.shared_slice_known-3-1.given 0)

pub mix_rounds-first-requires : goal.mix_rounds-first-requires
mix_rounds-first-requires c = let l = c.shared_slice_known-2-1.given (key_bytes - 1) in search rules

pub overflow_cast-key-2 : goal.overflow_cast-key-2
overflow_cast-key-2 c = omega (arith, c.shared_slice_known-4-1.given part_room)

pub overflow_add-key : goal.overflow_add-key
overflow_add-key c = let l = c.shared_slice_known-4-1.given part_room in search rules

pub returns : goal.returns
returns c =
    spread_is _ _ _ _ _ _ c.rounds_to.ensures c.mix_rounds-first.ensures.is c.rounds_to-2.ensures
    c.mix_rounds-both.ensures.is c.mix_rounds.ensures.is
