use mathlib.Core.Path.{refl}
use Rattle.terms_scanning.specs.Scanning.{passing}
use Rattle.terms_scanning.proofs.scan.passed.Goals as goal

pub returns : goal.returns
unfolding passing
returns c = refl
