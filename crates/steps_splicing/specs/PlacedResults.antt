-- The steps of a part put into an area on one walk of its parallels and restrictions: what the functions that do so promise.
use Rattle.std.specs.Prelude.{◌≡◌, Bool, List, ℕ, ◌+◌, ◌≤◌, get_or, Option, Some, None}
use Rattle.calculus.specs.Abstraction.{Act, tau_a, inp_a, out_a, bout_a}
use Rattle.calculus.specs.Cond.{Cond, cls}
use Rattle.calculus.specs.Term.{Term}
use Rattle.terms.specs.Limits.{name_count, longest_term}
use Rattle.terms.specs.Question.{Question}
use Rattle.terms.specs.Question.{body_of}
use Rattle.steps_tallies.specs.Candidates.{candidates}
use Rattle.steps.specs.Forms.{as_it_is}
use Rattle.steps.specs.Raw.{step, blocked}
use Rattle.steps_conditions.specs.Names.{most_binders, OwnNames}
use Rattle.steps_plans.specs.Plans.{Written}
use Rattle.steps_splicing.specs.Contexts.{Frame, raised, Placed}
use Rattle.steps.specs.Listed.{canon_step, result_bytes}
use Rattle.steps_splicing.specs.ListedParts.{Lists}

-- Where the bytes end that were written into an area of the longest term's length; where the answer is none there was no room for them: past its end.
abbrev pub ended : Option ℕ → ℕ
ended (Some e) = e
ended None = longest_term + 1

-- An end that an answer says is in the area.
abbrev pub InRoom : Option ℕ → Type 0
InRoom (Some e) = e ≤ longest_term
InRoom None = Unit {0}

-- Each name stands for itself in the table, beneath however many binders.
abbrev pub OwnTable : List ℕ → Type 0
OwnTable names = (binders : ℕ) → binders ≤ most_binders → OwnNames binders names

-- [Open] did not apply on the way from the action α to the action β.
unfoldable pub Unopened : Act → Act → Type 0
Unopened tau_a β = Unit {0}
Unopened (inp_a a) β = Unit {0}
Unopened (bout_a a) β = Unit {0}
Unopened (out_a a b) tau_a = ⊥
Unopened (out_a a b) (inp_a c) = ⊥
Unopened (out_a a b) (bout_a c) = ⊥
Unopened (out_a a b) (out_a c d) = Unit {0}

-- The condition merges nothing.
unfoldable pub Trivial : Cond → Type 0
Trivial M = (n : ℕ) → cls M n ≡ n

-- A candidate of a term that stands in a part, and the part's candidate that it is raised to, which is a step.
pub record Raises (q : Question) (P : Term) (K : List Frame) (C : Term) (at depth first number : ℕ) (silently : Bool) (j : ℕ) (M : Cond) (α : Act) (A : Term) : Type 0 where
  pub placed : Placed q.arities (body_of q.bodies) P K C at depth first number
  pub condition : Cond
  pub action : Act
  pub result : Term
  pub own : get_or (candidates silently (body_of q.bodies) 1 C) j blocked ≡ step condition action result
  pub is : raised K (step condition action result) ≡ step M α A
  pub unopened : Unopened action α

-- The result of such a step with a trivial condition, before it is tidied: all of the part that stands around the term stays, byte for byte.
pub record PlacedResultIs (question part : List ℕ) (at depth : ℕ) (silently : Bool) (j x : ℕ) (area : List ℕ) (r : ℕ) (area' : List ℕ) : Type 0 where
  pub is : (q : Question) (P : Term) → Lists question part x q P
      → (K : List Frame) (C : Term) (first number : ℕ) (M : Cond) (α : Act) (A : Term)
      → Raises q P K C at depth first number silently j M α A → Trivial M
      → Written area 0 (result_bytes (canon_step as_it_is name_count x M α A)) r area'
