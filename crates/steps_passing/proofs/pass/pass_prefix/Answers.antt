use mathlib.Core.Path.{ap, ◌∙◌}
use Prim.Native.Nat.{ℕ, ◌-◌}
use native.Mathlib.Omega.{arith}
use Rattle.terms_bytes.specs.NameTable.{table_names}
use Rattle.steps_conditions.specs.Names.{turn}
use Rattle.steps_conditions.proofs.NameSlots.{turn_small}
use Rattle.steps_passing.proofs.pass.pass_prefix.Goals as goal

pub returns-then-t-lt-INPUT : goal.returns-then-t-lt-INPUT
returns-then-t-lt-INPUT c =
    rw c.silent.ensures (record {
      slot = omega arith;
      kind = omega (arith, c.get-t.ensures, c.if-t-lt-INPUT.true);
      object = λ e. absurd (omega (
        arith,
        c.get-t.ensures,
        c.if-t-lt-INPUT.true,
      ));
    })

pub returns : goal.returns
returns c =
    record {
      slot = rw c.slot_of-object.ensures (turn_small 128 table_names c.args.binders c.get.result (omega arith) (omega arith));
      kind = ap
          (λ (k : ℕ). k - 1) c.get-t.ensures;
      object = λ e. c.slot_of-object.ensures ∙ ap (turn 128 table_names c.args.binders) c.get.ensures;
    }
