use mathlib.Core.Path.{◌≡◌, sym}
use Prim.Native.Nat.{◌+◌, ◌*◌}
use native.Mathlib.Omega.{arith}
use lib.ListN.{length}
use lib.Seq.{length-take-le}
use Rattle.small_parts_count.proofs.TallyLaws.{judge_verdict}
use borrow.Author.Rules.{rules}
use Rattle.small_parts_count.proofs.tally.judge_words.Goals as goal

pub slice_bounds-judge-end : goal.slice_bounds-judge-end
slice_bounds-judge-end c =
    let l : length c.question_about-question.result ≡ 18 = search rules in sym (length-take-le (2 * c.args.size + 8)
    c.question_about-question.result (omega (arith, l, c.requires.short)))

pub returns : goal.returns
returns c =
    let v = c.args in
    judge_verdict v.size v.first v.second _ v.work.now c.judge.result _ c.question_about-question.ensures c.requires.room
    c.judge.ensures
