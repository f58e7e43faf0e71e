-- The list of a term's steps: ascending byte order, no duplicates, or "unsettled" (document 01, "Steps").
use Rattle.std.specs.Prelude.{Bool, true, cond, ◌&&◌, List, [], ◌∷◌, ◌++◌, length, leb}
use Prim.Native.Nat.{ℕ, compare, Ordering}
use Rattle.calculus.specs.Term.{Term}
use Rattle.terms.specs.Limits.{name_count, longest_term}
use Rattle.terms.specs.Question.{body_of}
use Rattle.steps.specs.Raw.{Candidate, step, blocked, visible, silent}
use Rattle.steps.specs.CallLimit.{past_calls}
use Rattle.steps.specs.Forms.{result_form}
use Rattle.steps.specs.Limits.{most_steps}
use Rattle.steps.specs.Listed.{ListedStep, canon_step, result_bytes, bytes}

-- byte order: the first byte that differs decides
unfoldable pub order : List ℕ → List ℕ → Ordering
order [] [] = Ordering.eq
order [] (y ∷ ys) = Ordering.lt
order (x ∷ xs) [] = Ordering.gt
order (x ∷ xs) (y ∷ ys) = elim (compare x y) [ Ordering.lt ↦ Ordering.lt | Ordering.eq ↦ order xs ys | Ordering.gt ↦ Ordering.gt ]

module _ (longest : ℕ) where
  -- s in its place, unless its bytes are there already
  unfoldable pub insert : ListedStep → List ListedStep → List ListedStep
  insert s [] = s ∷ []
  insert s (t ∷ ts) =
      elim (order (bytes longest s) (bytes longest t)) [
        | Ordering.lt ↦ s ∷ t ∷ ts
        | Ordering.eq ↦ t ∷ ts
        | Ordering.gt ↦ t ∷ insert s ts
      ]

  unfoldable pub all_fit : List ListedStep → Bool
  all_fit [] = true
  all_fit (s ∷ ss) = leb (length (result_bytes s)) longest && all_fit ss

-- the candidates that are not blocked, for the new name x, put into a list one by one
unfoldable pub collect : (Term → Term) → (names longest x : ℕ) → List Candidate → List ListedStep → List ListedStep
collect form names longest x [] found = found
collect form names longest x (step M α P ∷ cs) found = collect form names longest x cs (insert longest (canon_step form names x M α P) found)
collect form names longest x (blocked ∷ cs) found = collect form names longest x cs found

pub data Listing : Type 0 where
  unsettled : Listing
  listed : List ListedStep → Listing

-- unsettled if there are more than `most` distinct steps, or a result above `longest` bytes
unfoldable pub limited : (longest most : ℕ) → List ListedStep → Listing
limited longest most found = cond (leb (length found) most && all_fit longest found) (listed found) unsettled

-- The steps of P, for the new name x, their results in the form given: no call is opened, or, if `calls` is not 0, each with all that it reaches.
-- Unsettled also if a call of P reaches too many (request 2026-01).
unfoldable pub listing : (Term → Term) → (names longest most : ℕ) (body : ℕ → Term) (calls x : ℕ) → Term → Listing
listing form names longest most body calls x P =
    cond (past_calls body P) unsettled (limited longest most (collect form names longest x (visible body calls P ++ silent body calls P) []))

-- The steps of a part of a question with these definitions. While check 11 refuses unprefixed calls in bodies, a call reaches itself alone.
unfoldable pub steps_of : List Term → ℕ → Term → Listing
steps_of bodies x P = listing result_form name_count longest_term most_steps (body_of bodies) 1 x P
