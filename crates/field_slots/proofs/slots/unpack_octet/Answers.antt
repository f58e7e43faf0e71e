use Rattle.field_slots.proofs.KeyLaws.{bits_stored}
use lib.ListN.{length-set}
use native.Mathlib.Omega.{arith}
use Rattle.field_slots.proofs.slots.unpack_octet.Goals as goal

pub bounds-flags-at-2 : goal.bounds-flags-at-2
bounds-flags-at-2 c = simp length-set (omega arith)

pub bounds-flags-at-3 : goal.bounds-flags-at-3
bounds-flags-at-3 c = simp length-set (omega arith)

pub bounds-flags-at-4 : goal.bounds-flags-at-4
bounds-flags-at-4 c = simp length-set (omega arith)

pub bounds-flags-at-5 : goal.bounds-flags-at-5
bounds-flags-at-5 c = simp length-set (omega arith)

pub bounds-flags-at-6 : goal.bounds-flags-at-6
bounds-flags-at-6 c = simp length-set (omega arith)

pub bounds-flags-at-7 : goal.bounds-flags-at-7
bounds-flags-at-7 c = simp length-set (omega arith)

pub bounds-flags-at-8 : goal.bounds-flags-at-8
bounds-flags-at-8 c = simp length-set (omega arith)

pub returns : goal.returns
returns c = bits_stored _ _ _
