use native.Mathlib.Omega.{arith}
use Rattle.field_kept_lists.proofs.KeptListLaws.{brought}
use Rattle.field_kept_lists.proofs.kept_lists.copy_kept.Goals as goal

pub steps_in-n-requires : goal.steps_in-n-requires
steps_in-n-requires c =
    omega (arith, c.requires.0, c.requires.1.is, c.requires.1.among)

pub copy-requires : goal.copy-requires
copy-requires c = (
  omega (arith, c.requires.0, c.requires.1.is, c.requires.1.among, c.requires.2, c.steps_in-n.ensures),
  omega (
    arith,
    c.requires.5,
    c.requires.2,
    c.steps_in-n.ensures,
  ),
)

pub put_label-requires : goal.put_label-requires
put_label-requires c =
    (omega (arith, c.copy.auto.out, c.requires.5), c.requires.3, c.requires.4, omega (arith, c.requires.2, c.steps_in-n.ensures))

pub returns : goal.returns
returns c =
    brought _ _ _ _ _ _ _ _ c.requires.0 c.requires.1 (omega (arith, c.requires.2, c.steps_in-n.ensures)) c.requires.4 c.steps_in-n.ensures
    c.copy.ensures c.put_label.ensures (omega (arith, c.put_label.auto.area, c.copy.auto.out, c.requires.5))
