use mathlib.Core.Path.{ap, ◌∙◌}
use borrow.Author.Tests.{lt-ltb, le-ltb}
use Rattle.terms_bytes.specs.NameTable.{beneath, renamed_byte}
use Rattle.terms_renaming.proofs.rename.renamed_byte.Goals as goal

pub returns-then-w-lt128 : goal.returns-then-w-lt128
unfolding renamed_byte
returns-then-w-lt128 c = simp (lt-ltb _ _ c.if-w-lt128.true) (c.byte_beneath.ensures ∙ ap (beneath _) c.get.ensures)

pub returns-then-j-inner : goal.returns-then-j-inner
unfolding renamed_byte
returns-then-j-inner c = simp (le-ltb _ _ c.if-w-lt128.false, lt-ltb _ _ c.if-j-inner.true)

pub returns : goal.returns
unfolding renamed_byte
returns c =
    simp (le-ltb _ _ c.if-w-lt128.false, le-ltb _ _ c.if-j-inner.false) (c.byte_beneath-2.ensures ∙ ap (beneath _)
    c.get-2.ensures)
