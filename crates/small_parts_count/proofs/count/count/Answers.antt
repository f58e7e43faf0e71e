use mathlib.Core.Path.{sym}
use Prim.Native.Nat.{◌≤◌}
use native.Mathlib.Omega.{arith}
use lib.ListN.{replicate}
use lib.Seq.{length-take-le}
use borrow.Author.Rules.{rules}
use Rattle.small_parts_count.specs.Counts.{CountIs}
use Rattle.small_parts_words.proofs.WordLaws.{few_parts}
use Rattle.small_parts_count.proofs.TallyLaws.{counted_numbers, few_kept}
use Rattle.small_parts_count.proofs.count.count.Goals as goal

pub returns-then-size-gt-GREATEST_LENGTH : goal.returns-then-size-gt-GREATEST_LENGTH
unfolding CountIs
returns-then-size-gt-GREATEST_LENGTH c = search rules

pub collect_parts-parts-requires : goal.collect_parts-parts-requires
collect_parts-parts-requires c =
    let n = c.args.size in
    let h : n ≤ 5 = search rules in
    (h, omega (arith, few_parts n h))

pub slice_bounds-kept-end : goal.slice_bounds-kept-end
slice_bounds-kept-end c =
    let n = c.args.size in let h : n ≤ 5 = search rules in omega (
      arith,
      few_kept n h _ _ _
          c.collect_parts-parts.ensures,
    )

pub slice_bounds-tally_pairs-end : goal.slice_bounds-tally_pairs-end
slice_bounds-tally_pairs-end c =
    let made = c.collect_parts-parts in let n = c.args.size in let h : n ≤ 5 = search rules in
    sym (length-take-le made.result made.new.kept (omega (arith, few_kept n h _ _ _ made.ensures, made.auto.kept)))

pub tally_pairs-requires : goal.tally_pairs-requires
tally_pairs-requires c =
    let made = c.collect_parts-parts in let n = c.args.size in let h : n ≤ 5 =
    search rules in let few : made.result ≤ 209 = few_kept n h _ _ _ made.ensures in record {
      room = record { short = h; room = search rules };
      few = omega (arith, few, length-take-le made.result made.new.kept (omega (arith, few, made.auto.kept)));
    }

pub returns : goal.returns
returns c =
    let made = c.collect_parts-parts in let n = c.args.size in let h : n ≤ 5 = search rules in counted_numbers n h (replicate
    209 0) made.new.kept made.result c.tally_pairs.result (search rules) made.ensures c.tally_pairs.ensures
