use mathlib.Core.Path.{refl, sym, ◌∙◌}
use Prim.Native.Nat.{ℕ, ◌+◌}
use lib.ListN.{length-set}
use borrow.Author.Rules.{rules}
use Rattle.small_parts_words.proofs.WritingLaws.{write-start, write_next, write_end}
use Rattle.small_parts_words.proofs.words.write_word.Goals as goal

pub loop-i-init : goal.loop-i-init
loop-i-init c = (search rules, refl, write-start c.args.out.now c.args.put c.args.size c.args.number)

pub loop-i-preserved : goal.loop-i-preserved
loop-i-preserved c =
    let v = c.args in (
      search rules,
      length-set {A = ℕ} c.loop-i.out (v.put + c.loop-i.i) _ ∙ c.loop-i.invariant.1,
      rw
          c.byte_of.ensures (write_next c.loop-i.out v.put v.size c.loop-i.i c.loop-i.rest
          (search rules)) ∙ c.loop-i.invariant.2,
    )

pub returns : goal.returns
returns c =
    sym (write_end c.loop-i.out c.args.put c.args.size c.loop-i.i
    c.loop-i.rest (search rules)) ∙ c.loop-i.invariant.2
