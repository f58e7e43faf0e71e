use mathlib.Core.Path.{◌≡◌, ap, ◌∙◌}
use Prim.Native.Nat.{ℕ, ◌+◌, ◌-◌}
use lib.ListN.{get_or}
use Rattle.terms_bytes.specs.NameTable.{table_names}
use Rattle.steps_conditions.specs.Names.{turn}
use Rattle.steps_passing.specs.Passing.{returned_at}
use Rattle.steps_passing.proofs.pass.returned.Goals as goal

pub returns : goal.returns
unfolding returned_at
returns c =
    let v = c.args in
    let e : c.slot_of.result ≡ turn 128 table_names v.binders (get_or v.src.now (v.at + (v.p.object - table_names)) 0) = c.slot_of.ensures ∙
    ap (turn 128 table_names v.binders) (c.get.ensures ∙ ap (λ (k : ℕ). get_or v.src.now (v.at + k) 0)
    c.parameter-j.ensures) in
    rw e
