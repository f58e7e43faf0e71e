use native.Mathlib.Omega.{arith}
use mathlib.Core.Path.{◌∙◌}
use Prim.Native.Nat.{◌*◌}
use Rattle.steps.specs.Limits.{step_bytes}
use Rattle.field_kept_lists.proofs.KeptListLaws.{kept_at_place, pasted}
use Rattle.field_kept_lists.proofs.kept_lists.keep.Goals as goal

pub returns-then-n-gt-KEPT_STEPS : goal.returns-then-n-gt-KEPT_STEPS
returns-then-n-gt-KEPT_STEPS c = λ question so list. (list, so)

pub put_label-requires : goal.put_label-requires
put_label-requires c =
    (omega (arith, c.copy_within.auto.self, c.requires.0, c.requires.1.is, c.requires.1.among), c.requires.2, c.requires.3, c.requires.4)

pub returns : goal.returns
returns c =
    kept_at_place _ _ _ _ _ _ _ c.requires.0 c.requires.1 c.if-n-gt-KEPT_STEPS.false
    (c.copy_within.ensures.after ∙ pasted _ 0 _ _ (step_bytes * c.args.n) (omega arith) (omega (arith, c.requires.0)) (omega (arith, c.requires.0, c.requires.1.is, c.requires.1.among)))
    c.put_label.ensures (omega (
      arith,
      c.put_label.auto.area,
      c.copy_within.auto.self,
      c.requires.0,
    ))
