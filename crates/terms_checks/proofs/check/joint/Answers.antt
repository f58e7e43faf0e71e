use mathlib.Core.Path.{refl}
use Rattle.terms_checks.specs.Checking.{joint_of}
use Rattle.terms_checks.proofs.check.joint.Goals as goal

pub returns : goal.returns
unfolding joint_of
returns c = refl
