use mathlib.Core.Path.{refl, sym, ◌∙◌}
use Prim.Native.Nat.{◌-◌}
use native.Mathlib.Omega.{arith}
use borrow.Author.Rules.{rules}
use Rattle.small_parts_count.proofs.TallyLaws.{pairs_start, pairs-step, pairs_end}
use Rattle.small_parts_count.proofs.tally.tally_pairs.Goals as goal

pub loop-i-init : goal.loop-i-init
loop-i-init c = (search rules, refl, omega arith, pairs_start _ _)

pub tally_row-tally-requires : goal.tally_row-tally-requires
tally_row-tally-requires c =
    let g = c.requires in let l = c.loop-i in record {
      room = record {
        short = g.room.short;
        room
            = omega (arith, g.room.room, l.invariant.1);
      };
      few = g.few;
      there = search rules;
      small = omega (
        arith,
        g.few,
        l.invariant.2,
        c.loop-i-test.true,
      );
    }

pub loop-i-preserved : goal.loop-i-preserved
loop-i-preserved c =
    let l = c.loop-i in let r = c.tally_row-tally in let s = pairs-step c.args.size c.args.kept.now l.i l.tally r.result (search rules)
    c.requires.few r.ensures l.invariant.2 l.invariant.3 in (search rules, r.auto.work ∙ l.invariant.1, s.0, s.1)

pub returns : goal.returns
returns c =
    let a = c.args in let l = c.loop-i in sym (pairs_end a.size a.kept.now l.i l.tally (search
    rules)) ∙ l.invariant.3
