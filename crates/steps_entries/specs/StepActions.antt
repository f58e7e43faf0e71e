-- The steps of a part put into an area on one walk of its parallels and restrictions: what the functions that do so promise.
use Rattle.std.specs.Prelude.{ℕ}
use Rattle.calculus.specs.Abstraction.{Act, tau_a, inp_a, out_a, bout_a}
use Rattle.calculus.specs.Cond.{Cond, cls}
use Rattle.steps_entries.specs.declared.listed.ActionBytes.{ActionBytes}

-- The bytes of an action, rewritten by the condition; the name received or extruded is x.
unfoldable pub step_action : ℕ → Cond → Act → ActionBytes
step_action x M tau_a = record { kind = 0; channel = 0; object = 0 }
step_action x M (inp_a a) = record { kind = 1; channel = cls M a; object = x }
step_action x M (out_a a b) = record { kind = 2; channel = cls M a; object = cls M b }
step_action x M (bout_a a) = record { kind = 3; channel = cls M a; object = x }
