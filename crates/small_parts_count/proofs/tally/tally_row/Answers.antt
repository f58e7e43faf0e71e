use mathlib.Core.Path.{refl, sym, ◌∙◌}
use Prim.Native.Nat.{◌-◌}
use native.Mathlib.Omega.{arith}
use borrow.Author.Rules.{rules}
use Rattle.verdict_judge.specs.Judging.{judged_answer}
use Rattle.small_parts_count.proofs.TallyLaws.{row_step, row_end}
use Rattle.small_parts_count.proofs.tally.tally_row.Goals as goal

pub loop-j-init : goal.loop-j-init
loop-j-init c = (search rules, refl, omega arith, refl)

pub offset_bounds-kept-row : goal.offset_bounds-kept-row
offset_bounds-kept-row c = omega (arith, c.requires.few, c.requires.there)

pub bounds-kept-row : goal.bounds-kept-row
bounds-kept-row c = c.requires.there

pub offset_bounds-kept-j : goal.offset_bounds-kept-j
offset_bounds-kept-j c = omega (arith, c.requires.few, c.loop-j-test.true)

pub judge_words-requires : goal.judge_words-requires
judge_words-requires c =
    record { short = c.requires.room.short; room = omega (arith, c.requires.room.room, c.loop-j.invariant.1) }

pub add-tally-requires : goal.add-tally-requires
add-tally-requires c =
    record { small = omega (arith, c.requires.small, c.loop-j.invariant.2, c.loop-j-test.true) }

pub loop-j-preserved : goal.loop-j-preserved
loop-j-preserved c =
    let v = c.args in
    let s = row_step v.size v.row v.kept.now c.loop-j.j v.before
    c.loop-j.tally c.add-tally.result (judged_answer
    c.judge_words.result) (search rules) c.judge_words.ensures c.add-tally.ensures
    c.loop-j.invariant.2
    c.loop-j.invariant.3 in (
      search rules,
      c.judge_words.auto.work ∙ c.loop-j.invariant.1,
      s.0,
      s.1,
    )

pub returns : goal.returns
returns c =
    let v = c.args in
    sym (row_end v.size v.row v.kept.now c.loop-j.j c.loop-j.tally (search rules)) ∙ c.loop-j.invariant.3
