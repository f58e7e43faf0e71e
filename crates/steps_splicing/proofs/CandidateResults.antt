-- A candidate by its number, from its label and the bytes of its result: what is put into the list. Assumes nothing.
use mathlib.Core.Path.{◌≡◌, refl}
use Prim.Native.Nat.{ℕ}
use Rattle.calculus.specs.Abstraction.{Act, tau_a, inp_a, out_a, bout_a}
use Rattle.calculus.specs.Cond.{Cond, cls}
use Rattle.calculus.specs.Term.{Term, ren}
use Rattle.terms.specs.Encoding.{encode}
use Rattle.terms.specs.Limits.{name_count}
use Rattle.steps_plans.specs.Plans.{receiving}
use Rattle.steps.specs.Forms.{as_it_is}
use Rattle.steps.specs.Listed.{listed_as, canon_step, result_bytes}

-- The result that the writer writes by this table is that in canonical form, as it is before it is tidied.
pub receiving-canonical : (x : ℕ) (M : Cond) (α : Act) (A : Term)
    → result_bytes (canon_step as_it_is name_count x M α A) ≡ encode 0 (ren (receiving x (cls M) α) A)
unfolding result_bytes canon_step listed_as receiving
receiving-canonical x M tau_a A = refl
receiving-canonical x M (inp_a a) A = refl
receiving-canonical x M (out_a a b) A = refl
receiving-canonical x M (bout_a a) A = refl
