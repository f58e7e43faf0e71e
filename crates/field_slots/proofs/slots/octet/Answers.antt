use native.Mathlib.Omega.{arith}
use Rattle.field_slots.proofs.KeptFlags.{octet-none}
use Rattle.field_slots.proofs.KeyLaws.{octet_is}
use Rattle.field_slots.proofs.slots.octet.Goals as goal

pub returns-then-word-eq0 : goal.returns-then-word-eq0
returns-then-word-eq0 c = octet-none _ _ _ _ _ (omega arith) c.word.ensures c.word-2.ensures c.if-word-eq0.true

pub returns : goal.returns
returns c =
    octet_is _ _ _ _ _ _ _ _ _ _ c.kept_bit.ensures c.kept_bit-2.ensures c.kept_bit-3.ensures c.kept_bit-4.ensures
    c.kept_bit-5.ensures c.kept_bit-6.ensures c.kept_bit-7.ensures c.kept_bit-8.ensures
