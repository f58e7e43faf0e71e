use Prim.Native.Nat.{◌+◌, ◌*◌, ◌≤◌}
use lib.ListN.{length}
use mathlib.Core.Path.{◌≡◌}
use Rattle.field_kept_lists.specs.ListArea.{Labelled}
use Rattle.verdict_answers.specs.Manners.{manner_of}
use Rattle.verdict_answers.specs.Striking.{marks, zeros, PassIs}
use Rattle.verdict_strikeout.proofs.BlockLaws.{Blocks}
use Rattle.verdict_strikeout.proofs.StrikeLaws.{TakenUp}
use Rattle.verdict_strikeout.proofs.strike.+strike_blocks_strike_until_stable.Given as goal

abbrev pub decreases-strike_until_stable : goal.decreases-strike_until_stable
decreases-strike_until_stable l = 2 * l.pass.level

abbrev pub decreases-strike_blocks : goal.decreases-strike_blocks
decreases-strike_blocks l = 2 * l.pass.level + 1

abbrev pub invariant-strike_until_stable-loop-search : goal.invariant-strike_until_stable-loop-search
invariant-strike_until_stable-loop-search l =
    (length l.work ≡ length l.initial.work) × (length l.tallies ≡ length l.initial.tallies) × (length l.rows ≡ length l.initial.rows)
    × (length l.firsts ≡ length l.initial.firsts) × (length l.seconds ≡ length l.initial.seconds) × Labelled l.question l.firsts
    × Labelled l.question l.seconds
    × PassIs l.examine (manner_of l.search.manner) l.question l.search.capacity l.initial.work l.search.count (λ j. ⊥) l.struck l.work

abbrev pub decreases-strike_until_stable-loop-search : goal.decreases-strike_until_stable-loop-search
decreases-strike_until_stable-loop-search l = zeros (marks l.work l.search.count)

abbrev pub invariant-strike_blocks-loop-i : goal.invariant-strike_blocks-loop-i
invariant-strike_blocks-loop-i l =
    (l.i ≤ l.blocks) × (length l.work ≡ length l.initial.work) × (length l.tallies ≡ length l.initial.tallies) × (length l.rows ≡ length l.initial.rows)
    × (length l.firsts ≡ length l.initial.firsts) × (length l.seconds ≡ length l.initial.seconds) × Labelled l.question l.firsts
    × Labelled l.question l.seconds
    × PassIs l.examine (manner_of l.search.manner) l.question l.search.capacity l.initial.work l.search.count
    (TakenUp l.rising l.blocks (Blocks l.from l.size l.block) l.i) l.struck l.work
