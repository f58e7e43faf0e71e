use mathlib.Core.Path.{◌≡◌, ◌∙◌}
use Prim.Native.Nat.{◌+◌}
use native.Mathlib.Omega.{arith}
use borrow.Author.Rules.{rules}
use Rattle.terms_bytes.specs.NameTable.{table_names}
use Rattle.terms_renaming.proofs.Filling.{fill_step}
use Rattle.steps_conditions.proofs.NameSlots.{bound_start, bound_byte_lem, bound_done}
use Rattle.steps_passing.proofs.names.bound_bytes.Goals as goal

pub loop-j-init : goal.loop-j-init
loop-j-init c = (bound_start _ _ _ _, search rules)

pub bounds-table-j : goal.bounds-table-j
bounds-table-j c = omega (arith, c.loop-j.invariant.0.len)

pub loop-j-preserved : goal.loop-j-preserved
loop-j-preserved c =
    let l = c.loop-j in
    let e : table_names + l.j + 1 ≡ table_names + (l.j + 1) = omega arith in
    (rw e at (fill_step _ _ _ (table_names + l.j) _ (omega arith) (c.byte_of-b.ensures ∙ bound_byte_lem _ _ _ _ _) l.invariant.0), search rules)

pub returns : goal.returns
returns c = bound_done _ _ _ _ _ _ (omega arith) c.loop-j.invariant.0
