use Prim.Native.Nat.{◌+◌}
use native.Mathlib.Omega.{arith}
use borrow.Author.Tests.{lt-ltb, le-ltb}
use Rattle.terms_bytes.specs.NameTable.{beneath}
use Rattle.terms_renaming.proofs.rename.byte_beneath.Goals as goal

pub returns-then-b-lt128 : goal.returns-then-b-lt128
unfolding beneath
returns-then-b-lt128 c = simp (lt-ltb _ _ c.if-b-lt128.true)

pub returns-then-inner-ge256 : goal.returns-then-inner-ge256
unfolding beneath
returns-then-inner-ge256 c = simp (le-ltb _ _ c.if-b-lt128.false, le-ltb (c.args.b + c.args.inner) 256 (omega arith))

pub returns-then-w-lt256 : goal.returns-then-w-lt256
unfolding beneath
returns-then-w-lt256 c = simp (le-ltb _ _ c.if-b-lt128.false, lt-ltb _ _ c.if-w-lt256.true)

pub returns-else-w-lt256 : goal.returns-else-w-lt256
unfolding beneath
returns-else-w-lt256 c = simp (le-ltb _ _ c.if-b-lt128.false, le-ltb _ _ c.if-w-lt256.false)
