use native.Mathlib.Omega.{arith}
use mathlib.Core.Path.{◌∙◌}
use Prim.Native.Nat.{◌+◌, ◌*◌, ◌≤◌}
use Rattle.steps.specs.Limits.{step_bytes}
use Rattle.field_kept_lists.specs.ListArea.{label_bytes, kept_steps}
use Rattle.field_kept_lists.proofs.KeptListLaws.{brought, pasted}
use Rattle.field_kept_lists.proofs.kept_lists.bring.Goals as goal

pub steps_in-n-requires : goal.steps_in-n-requires
steps_in-n-requires c =
    omega (arith, c.requires.0, c.requires.1.is, c.requires.1.among)

pub put_label-requires : goal.put_label-requires
put_label-requires c =
    (omega (arith, c.copy_within.auto.self, c.requires.0), c.requires.3, c.requires.4, omega (arith, c.requires.2, c.steps_in-n.ensures))

pub returns : goal.returns
returns c =
    let few : c.steps_in-n.result ≤ kept_steps = omega (arith, c.requires.2, c.steps_in-n.ensures) in
    brought _ _ _ _ _ _ _ _ c.requires.0 c.requires.1 few c.requires.4 c.steps_in-n.ensures
    (c.copy_within.ensures.after ∙ pasted c.args.area.now (c.args.p + label_bytes) (c.args.p + label_bytes + step_bytes * c.steps_in-n.result) 0 (step_bytes * c.steps_in-n.result) (omega arith) (omega (arith, c.requires.0, c.requires.1.is, c.requires.1.among)) (omega (arith, c.requires.0)))
    c.put_label.ensures (omega (arith, c.put_label.auto.area, c.copy_within.auto.self, c.requires.0))
