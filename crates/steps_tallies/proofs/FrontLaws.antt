-- Where a term stands, and its front. Assumes nothing.
use mathlib.Core.Path.{◌≡◌, sym, ap, subst, ◌∙◌}
use mathlib.Core.List.{List, ◌∷◌, ◌++◌, append_assoc}
use Prim.Native.Nat.{ℕ, ◌+◌, ◌<◌, ◌≤◌}
use native.Mathlib.Omega.{arith}
use lib.ListN.{length, get_or, drop, length-append, length-drop}
use lib.Seq.{drop-drop, drop-append_seam}
use Rattle.calculus.specs.Term.{Term}
use Rattle.terms.specs.Encoding.{encode}
use Rattle.terms_bytes.specs.Shape.{ShapeIs}
use Rattle.terms_bytes.specs.declared.shape.Shape.{Shape}
use Rattle.terms.proofs.ReadEncoded.{encode-some}
use Rattle.terms_bytes.proofs.Shapes.{front_of, length_front, front-inside}
use Rattle.std.specs.Prelude.{Some, None}
use Rattle.terms.specs.Encoding.{InScope}
use Rattle.steps_tallies.specs.Fronts.{TermFrontIs, FrontIs}
use Rattle.steps_tallies.specs.declared.front.TermFront.{TermFront}

-- A term that stands somewhere is there whole.
pub stands : (s : List ℕ) (at D : ℕ) (P : Term) (rest : List ℕ) → drop at s ≡ encode D P ++ rest → (0 < length (encode D P)) × (at + length (encode D P) ≤ length s)
stands s at D P rest e =
    let z = encode-some D P in
    (z, omega (arith, simp (length-append, length-drop) at (ap length e)))

-- What stands behind a front of n bytes.
pub behind : (s : List ℕ) (at n : ℕ) (f more : List ℕ) → drop at s ≡ f ++ more → n ≡ length f → drop (at + n) s ≡ more
behind s at n f more e h = rw (h, ← drop-drop, e, drop-append_seam)

-- Where the sides of a form stand: behind one byte, one after the other.
module _ (D : ℕ) (s : List ℕ) (at : ℕ) (P Q : Term) (rest : List ℕ) (h : ℕ) (st : drop at s ≡ (h ∷ (encode D P ++ encode D Q)) ++ rest) where
  pub at_left : drop (at + 1) s ≡ encode D P ++ (encode D Q ++ rest)
  at_left = sym (drop-drop 1 at s) ∙ ap (drop 1) st ∙ append_assoc (encode D P) (encode D Q) rest

  pub at_right : (e : ℕ) → e ≡ at + 1 + length (encode D P) → drop e s ≡ encode D Q ++ rest
  at_right e q = rw (q, ← drop-drop, at_left, drop-append_seam)

-- The front.
module _ (s : List ℕ) (at : ℕ) (arities : List ℕ) where
  no_front : ((free D : ℕ) (P : Term) (rest : List ℕ) → InScope free arities D P → drop at s ≡ encode D P ++ rest → ⊥) → FrontIs s at arities None
  no_front none = record {
    some = λ h e. let z : ◌≡◌ {A = ℕ} 0 1 = cc in absurd (omega arith);
    none = λ e. none;
  }

  pub front-past : length s ≤ at → FrontIs s at arities None
  front-past h = no_front (λ free D P rest g e. let z = stands s at D P rest e in omega arith)

  module _ (h : Shape) (shape : ShapeIs s at arities h) (lt : at < length s) where
    pub front_short : length s < at + (h.fixed + h.names) → FrontIs s at arities None
    front_short short =
        no_front (λ free D P rest g e. omega (arith, front-inside s at arities h shape D P (front_of free arities D P g) rest e lt))

    pub front_there : (r : TermFront) → at + (h.fixed + h.names) ≤ length s → r.tag ≡ get_or s at 0 → r.next ≡ at + (h.fixed + h.names) → FrontIs s at arities (Some r)
    front_there r fits t n = record {
      some = λ p e. let z : ◌≡◌ {A = TermFront} r p = cc in subst (TermFrontIs s at arities) z there;
      none = λ e. let z : ◌≡◌ {A = ℕ} 0 1 = cc in absurd (omega arith);
    }
      where
        there : TermFrontIs s at arities r
        there = record {
          inside = omega arith;
          some = let z = shape.some in omega arith;
          is = λ free D P rest g e. (t, n ∙ ap (λ (m : ℕ). at + m) (length_front s at arities h shape D P (front_of free arities D P g) rest e));
        }
