use Prim.Native.Nat.{ℕ, ◌+◌}
use native.Mathlib.Omega.{arith}
use lib.ListN.{length-set}
use Rattle.small_parts_words.proofs.PartLaws.{question_bytes}
use Rattle.small_parts_words.proofs.question.question_about.Goals as goal

pub write_word-requires-2 : goal.write_word-requires-2
write_word-requires-2 c =
    omega (arith, length-set {A = ℕ} c.write_word.new.out (c.args.size + 5) c.args.size, c.write_word.auto.out, c.requires)

pub returns : goal.returns
returns c =
    let v = c.args in
    question_bytes v.size v.first v.second c.requires c.write_word.new.out c.write_word-2.new.out
    c.write_word.ensures c.write_word-2.ensures
