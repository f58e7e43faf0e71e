use mathlib.Core.Path.{sym}
use native.Mathlib.Omega.{arith}
use lib.ListN.{replicate}
use lib.Seq.{length-take-le}
use Rattle.terms_bytes.specs.Counted.{edition_from}
use Rattle.small_parts_words.proofs.PartLaws.{faulty_word, whole_word}
use borrow.Author.Rules.{rules}
use Rattle.small_parts_words.proofs.parts.is_part.Goals as goal

pub slice_bounds-scan_whole-end : goal.slice_bounds-scan_whole-end
slice_bounds-scan_whole-end c =
    sym (length-take-le c.args.size c.write_word.new.out (omega (arith, c.write_word.auto.out, c.requires)))

pub returns-in-Err : goal.returns-in-Err
unfolding edition_from
returns-in-Err c =
    faulty_word c.args.size
    c.args.number (replicate 5 0)
    c.write_word.new.out c.scan_whole.result c.in-Err.field-0
    (search rules) c.write_word.ensures c.scan_whole.ensures
    c.in-Err.is

pub returns-in-Ok : goal.returns-in-Ok
unfolding edition_from
returns-in-Ok c =
    whole_word c.args.size
    c.args.number (replicate 5 0)
    c.write_word.new.out c.scan_whole.result
    c.in-Ok.control (search rules)
    c.write_word.ensures c.scan_whole.ensures
    c.in-Ok.is
