-- The front of a term over its bytes: what the function that finds it promises.
use Rattle.std.specs.Prelude.{◌≡◌, Option, Some, None, List, ◌++◌, ℕ, ◌+◌, ◌≤◌, max, min, length, get_or, drop}
use Rattle.calculus.specs.Term.{Term}
use Rattle.terms.specs.Encoding.{encode, InScope}
use Rattle.terms_bytes.specs.Shape.{front_bytes}
use Rattle.steps_tallies.specs.declared.front.TermFront.{TermFront}

pub record TermFrontIs (s : List ℕ) (at : ℕ) (arities : List ℕ) (r : TermFront) : Type 0 where
  pub inside : r.next ≤ max at (length s)
  pub some : at + min 1 r.tag ≤ r.next
  pub is : (free D : ℕ) (P : Term) (rest : List ℕ) → InScope free arities D P → drop at s ≡ encode D P ++ rest
      → (r.tag ≡ get_or s at 0) × (r.next ≡ at + length (front_bytes D P))

-- The front, if a term stands there.
pub record FrontIs (s : List ℕ) (at : ℕ) (arities : List ℕ) (r : Option TermFront) : Type 0 where
  pub some : (h : TermFront) → r ≡ Some h → TermFrontIs s at arities h
  pub none : r ≡ None → (free D : ℕ) (P : Term) (rest : List ℕ) → InScope free arities D P → drop at s ≡ encode D P ++ rest → ⊥
