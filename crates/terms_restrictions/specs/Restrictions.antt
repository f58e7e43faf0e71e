-- Whether a term has a restriction, or an output of a new name, which leaves one behind where it meets an input. Where neither stands in a part or a body, no
-- step has one in its result either.
use Rattle.std.specs.Prelude.{Bool, true, false, ◌||◌, List, ◌≡◌, ℕ}
use Rattle.calculus.specs.Term.{Term, nil, tau, inp, out, bout, mat, sum, par, res, call}
use Rattle.terms.specs.Encoding.{encode, InScope}

unfoldable pub restricted_anywhere : Term → Bool
restricted_anywhere nil = false
restricted_anywhere (tau P) = restricted_anywhere P
restricted_anywhere (inp a P) = restricted_anywhere P
restricted_anywhere (out a b P) = restricted_anywhere P
restricted_anywhere (bout a P) = true
restricted_anywhere (mat a b P) = restricted_anywhere P
restricted_anywhere (sum P Q) = restricted_anywhere P || restricted_anywhere Q
restricted_anywhere (par P Q) = restricted_anywhere P || restricted_anywhere Q
restricted_anywhere (res P) = true
restricted_anywhere (call k xs) = false

-- It has none (proofs/RestrictionWalk: where `restricted_anywhere` says false).
abbrev pub Unrestricted : Term → Type 0
Unrestricted nil = Unit
Unrestricted (tau P) = Unrestricted P
Unrestricted (inp a P) = Unrestricted P
Unrestricted (out a b P) = Unrestricted P
Unrestricted (bout a P) = ⊥
Unrestricted (mat a b P) = Unrestricted P
Unrestricted (sum P Q) = Unrestricted P × Unrestricted Q
Unrestricted (par P Q) = Unrestricted P × Unrestricted Q
Unrestricted (res P) = ⊥
Unrestricted (call k xs) = Unit

-- The bytes are those of a term in scope.
unfoldable pub HasRestrictionIs : List ℕ → List ℕ → Bool → Type 0
HasRestrictionIs s arities r = (free d : ℕ) (P : Term) → InScope free arities d P → s ≡ encode d P → r ≡ restricted_anywhere P
