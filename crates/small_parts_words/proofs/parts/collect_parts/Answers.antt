use native.Mathlib.Omega.{arith}
use borrow.Author.Rules.{rules}
use Rattle.small_parts_words.proofs.PartLaws.{none_kept, may_keep, kept_more, collected}
use Rattle.small_parts_words.proofs.parts.collect_parts.Goals as goal

pub loop-number-init : goal.loop-number-init
loop-number-init c = none_kept _ _ _

pub keep_part-count-requires : goal.keep_part-count-requires
keep_part-count-requires c =
    may_keep c.args.size c.loop-number.number c.args.kept.now c.loop-number.kept c.loop-number.count c.requires.0 c.requires.1 (omega (
      arith,
      c.word_count-words.ensures,
      c.loop-number-test.true,
    )) c.loop-number.invariant.1 c.loop-number.invariant.2

pub loop-number-preserved : goal.loop-number-preserved
loop-number-preserved c =
    let m = kept_more c.args.size
    c.loop-number.number c.args.kept.now
    c.loop-number.kept _ c.loop-number.count _
    c.loop-number.invariant.1 c.loop-number.invariant.2
    c.keep_part-count.ensures in (search rules, m.0, m.1)

pub returns : goal.returns
returns c =
    collected c.args.size c.args.kept.now c.loop-number.kept c.loop-number.count c.loop-number.number (omega (
      arith,
      c.word_count-words.ensures,
      c.loop-number-test.false,
      c.loop-number.invariant.0,
    )) c.loop-number.invariant.1 c.loop-number.invariant.2
