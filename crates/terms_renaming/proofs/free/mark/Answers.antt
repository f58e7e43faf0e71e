use mathlib.Core.Path.{sym}
use native.Mathlib.Omega.{arith}
use lib.Seq.{set_out}
use Rattle.terms_renaming.proofs.free.mark.Goals as goal

pub returns-else-n-flags : goal.returns-else-n-flags
returns-else-n-flags c = sym (set_out c.args.flags.now c.args.b 1 (omega arith))
