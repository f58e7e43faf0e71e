use native.Mathlib.Omega.{arith}
use borrow.Author.Rules.{rules}
use Rattle.terms_renaming.proofs.Filling.{fill_start, fill_step}
use Rattle.steps_passing.proofs.names.free_bytes.Goals as goal

pub loop-i-init : goal.loop-i-init
loop-i-init c = (fill_start _ _, search rules)

pub bounds-table-i : goal.bounds-table-i
bounds-table-i c = omega (arith, c.loop-i.invariant.0.len)

pub loop-i-preserved : goal.loop-i-preserved
loop-i-preserved c = (fill_step _ _ _ _ _ (omega arith) c.byte_of-b.ensures c.loop-i.invariant.0, search rules)

pub returns : goal.returns
returns c = record { is = λ i h. c.loop-i.invariant.0.done i (omega arith); len = c.loop-i.invariant.0.len }
