-- The visible candidates of a term in a table, four bytes for each: what it does, its channel and its object; the fourth byte is not used. Names
-- stand by their slots (Slots), which do not move when a restriction is left: so a row serves beneath a restriction and outside it. For the same
-- reason a match of a name with itself, and one of a restricted name with another, are decided before a row is put (Deciding).
use Rattle.std.specs.Prelude.{◌≡◌, Bool, true, false, cond, List, [], ◌∷◌, ◌++◌, ℕ, ◌+◌, ◌≤◌, length, get_or, drop, eqb, leb}
use Rattle.calculus.specs.Term.{Term, ren}
use Rattle.terms.specs.Answer.{result}
use Rattle.terms.specs.Encoding.{encode, InScope}
use Rattle.terms.specs.Limits.{name_count}
use Rattle.terms.specs.Question.{Question, check_of}
use Rattle.steps_labels.specs.LabelWalk.{slot_at, HasSlots}
use Rattle.calculus.specs.Lists.{◌∈◌}
use Rattle.terms.specs.Question.{body_of}
use Rattle.steps.specs.Raw.{Candidate, visible}
use Rattle.steps_tallies.specs.Tally.{end_at}
use Rattle.steps_placing.specs.Deciding.{Again}

-- At p stands a match of a name with itself, by the slots of its names,
unfoldable pub is_trivial : (s args : List ℕ) (inner depth p : ℕ) → Bool
is_trivial s args inner depth p =
    cond (eqb (get_or s p 0) 5) (eqb (slot_at args inner depth (get_or s (p + 1) 0)) (slot_at args inner depth (get_or s (p + 2) 0))) false

-- or one of a restricted name with another.
unfoldable pub is_failing : (s args : List ℕ) (inner depth p : ℕ) → Bool
is_failing s args inner depth p =
    let u = slot_at args inner depth (get_or s (p + 1) 0) in
    let v = slot_at args inner depth (get_or s (p + 2) 0) in
    cond (eqb (get_or s p 0) 5) (cond (eqb u v) false (cond (leb name_count u) true (leb name_count v))) false

-- What stands in a choice before one of its branches: bytes 06, matches of a name with itself, and branches.
pub data Piece : Type 0 where
  plus : Piece
  match : Piece
  branch : Term → Piece

module _ (body : ℕ → Term) (calls : ℕ) (arities : List ℕ) (free D : ℕ) (σ : ℕ → ℕ) (s args : List ℕ) (inner depth : ℕ) (before : List Candidate) where
  -- The pieces from p up to `at`: the visible candidates of each branch add no step to those of `before`.
  unfoldable pub Pieces : (p at : ℕ) → List Piece → Type 0
  Pieces p at [] = p ≡ at
  Pieces p at (plus ∷ l) = (get_or s p 0 ≡ 6) × Pieces (p + 1) at l
  Pieces p at (match ∷ l) = (is_trivial s args inner depth p ≡ true) × Pieces (p + 3) at l
  Pieces p at (branch B ∷ l) =
      (get_or s p 0 ≡ 6 → ⊥) × (is_trivial s args inner depth p ≡ false) × InScope free arities D B
      × ((rest : List ℕ) × (drop p s ≡ encode D B ++ rest))
      × ((c : Candidate) → c ∈ visible body calls (ren σ B) → Again depth c before) × Pieces (p + length (encode D B)) at l

  -- The choice that begins at `root` has the term at `at` for a branch, and those of `before` come before it.
  abbrev pub Offers : (root at : ℕ) → Type 0
  Offers root at = (l : List Piece) × Pieces root at l

-- The place behind the piece at p, by the tally t.
unfoldable pub behind_piece : (s t args : List ℕ) (inner depth p : ℕ) → ℕ
behind_piece s t args inner depth p = cond (eqb (get_or s p 0) 6) (p + 1) (cond (is_trivial s args inner depth p) (p + 3) (end_at t p))

-- Whether the term at `at`, no match of a name with itself, is known to add no step to its choice: a match that fails, or one that stands earlier.
pub record RepeatedIs (question s args : List ℕ) (inner depth root at : ℕ) (r : Bool) : Type 0 where
  pub is : (q : Question) (calls free D : ℕ) (σ : ℕ → ℕ) (P : Term) (rest : List ℕ) (before : List Candidate)
      → r ≡ true
      → check_of question ≡ result q
      → free ≤ name_count
      → HasSlots free D args inner depth σ
      → InScope free q.arities D P
      → drop at s ≡ encode D P ++ rest
      → (get_or s at 0 ≡ 6 → ⊥)
      → is_trivial s args inner depth at ≡ false
      → Offers (body_of q.bodies) calls q.arities free D σ s args inner depth before root at
      → (c : Candidate) → c ∈ visible (body_of q.bodies) calls (ren σ P) → Again depth c before
