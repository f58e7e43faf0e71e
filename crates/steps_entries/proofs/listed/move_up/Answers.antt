use borrow.Author.Rules.{rules}
use lib.ListN.{length}
use lib.Seq.{length-sets}
use mathlib.Core.Path.{◌≡◌, ap, ◌∙◌}
use native.Mathlib.Omega.{arith}
use Rattle.steps_entries.proofs.Moves.{moved_all, moved_more, moved_none}
use Rattle.steps_entries.proofs.listed.move_up.Goals as goal

pub loop-i-init : goal.loop-i-init
loop-i-init c = (search rules, moved_none c.args.list.now 1 c.args.n)

pub bounds-list-i : goal.bounds-list-i
bounds-list-i c =
    let l : length c.loop-i.list ≡ length c.args.list.now = ap length c.loop-i.invariant.1 ∙ simp length-sets in
    omega arith

pub bounds-list-i-in-loop-i : goal.bounds-list-i-in-loop-i
bounds-list-i-in-loop-i c =
    let l : length c.loop-i.list ≡ length c.args.list.now = ap length c.loop-i.invariant.1 ∙ simp length-sets in
    omega arith

pub loop-i-preserved : goal.loop-i-preserved
loop-i-preserved c = (
  search rules,
  moved_more c.args.list.now 1 c.loop-i.i c.args.n (search
      rules) (search rules) (search rules) c.loop-i.list c.loop-i.invariant.1,
)

pub returns : goal.returns
returns c =
    moved_all c.args.list.now 1 c.loop-i.i c.args.n (search rules) c.loop-i.list
    c.loop-i.invariant.1
