use mathlib.Core.Path.{◌≡◌, ap, ◌∙◌}
use Prim.Native.Nat.{ℕ, ◌+◌}
use native.Mathlib.Omega.{arith}
use lib.ListN.{get_or, length-set}
use borrow.Author.Rules.{rules}
use Rattle.terms_bytes.specs.NameTable.{table_names}
use Rattle.steps_conditions.specs.Names.{turn}
use Rattle.steps_conditions.proofs.NameSlots.{called-none, called_more}
use Rattle.steps_passing.proofs.names.called.Goals as goal

pub loop-j-init : goal.loop-j-init
loop-j-init c = (search rules, called-none _ _ _ _ _, search rules)

pub loop-j-preserved : goal.loop-j-preserved
loop-j-preserved c =
    let a = c.args in
    let l = c.loop-j in
    let e : c.get-in-loop-j.result ≡ get_or a.names.now (turn 128 table_names a.binders (get_or a.src.now (a.at + l.j) 0)) 0 = c.get-in-loop-j.ensures ∙ ap
    (λ (k : ℕ). get_or a.names.now k 0) (c.slot_of-s.ensures ∙ ap (turn 128 table_names a.binders) c.get.ensures)
    in (
      search rules,
      called_more a.src.now a.at l.j a.binders a.names.now l.inner _ (omega arith) e l.invariant.1,
      length-set
          l.inner _ _ ∙ l.invariant.2,
    )

pub returns : goal.returns
returns c =
    let a = c.args in
    let l = c.loop-j in
    let e : l.j ≡ a.count = omega arith in
    rw e at l.invariant.1
