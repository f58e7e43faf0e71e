-- A pair of parts inside a larger exchange (document 02, request 2026-13): P' and Q' have P and Q at one place, beneath the same operators to any
-- depth. D' are the pairs that the promise needs held apart there, where P and Q have D. That P' and Q' are then related if P and Q are is a theorem
-- (proofs/Theorems).
use Rattle.std.specs.Prelude.{ℕ, [], ◌∷◌}
use Rattle.calculus.specs.Term.{Term, tau, out, mat, sum, par, restrict}
use Rattle.calculus.specs.Cond.{Pairs}
use Rattle.calculus.specs.Distinction.{Apart, minus}
use Rattle.calculus.specs.Published.{input, new_output, prefix}

pub data Inside (D : Pairs) (P Q : Term) : Pairs → Term → Term → Type 0 where
  itself : Inside D P Q D P Q
  -- "silent and output prefixes"
  behind_silent : {D' : Pairs} {P' Q' : Term} → Inside D P Q D' P' Q' → Inside D P Q D' (tau P') (tau Q')
  behind_output : {D' : Pairs} {P' Q' : Term} (a b : ℕ) → Inside D P Q D' P' Q' → Inside D P Q D' (out a b P') (out a b Q')
  -- "a match"
  beneath_match : {D' : Pairs} {P' Q' : Term} (a b : ℕ) → Inside D P Q D' P' Q' → Inside D P Q D' (mat a b P') (mat a b Q')
  -- "a choice with one common branch", on either side
  left_of_choice : {D' : Pairs} {P' Q' : Term} (T : Term) → Inside D P Q D' P' Q' → Inside D P Q D' (sum P' T) (sum Q' T)
  right_of_choice : {D' : Pairs} {P' Q' : Term} (T : Term) → Inside D P Q D' P' Q' → Inside D P Q D' (sum T P') (sum T Q')
  -- a common part beside them, on either side, as document 01 has it
  left_of_parallel : {D' : Pairs} {P' Q' : Term} (T : Term) → Inside D P Q D' P' Q' → Inside D P Q D' (par P' T) (par Q' T)
  right_of_parallel : {D' : Pairs} {P' Q' : Term} (T : Term) → Inside D P Q D' P' Q' → Inside D P Q D' (par T P') (par T Q')
  -- "Under a restriction or a new-name output, the apart pairs of the bound name are dropped": x is that name, free in P' and Q'
  beneath_restriction : {D' : Pairs} {P' Q' : Term} (x : ℕ) → Inside D P Q D' P' Q'
      → Inside D P Q (minus D' (x ∷ [])) (restrict x P') (restrict x Q')
  behind_new_output : {D' : Pairs} {P' Q' : Term} (a x : ℕ) → Inside D P Q D' P' Q'
      → Inside D P Q (minus D' (x ∷ [])) (prefix (new_output a x) P') (prefix (new_output a x) Q')
  -- "Under an input this is promised only where the apart list has no pair with the received name"
  behind_input : {D' : Pairs} {P' Q' : Term} (a x : ℕ) → ((b : ℕ) → ¬ Apart D' x b) → Inside D P Q D' P' Q'
      → Inside D P Q D' (prefix (input a x) P') (prefix (input a x) Q')
