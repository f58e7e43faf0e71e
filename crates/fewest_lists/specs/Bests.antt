-- What the code of the search knows and tells.
use Rattle.std.specs.Prelude.{List, [], ◌∷◌, ◌++◌, ◌≡◌, ℕ, drop, Option, Some, None, Result, Ok, Err}
use Rattle.calculus.specs.Cond.{Pairs}
use Rattle.terms.specs.Answer.{Answer, result}
use Rattle.terms.specs.Limits.{name_count}
use Rattle.terms.specs.Question.{pair_bytes}
use Rattle.terms_bytes.specs.Refusals.{number_of}
use Rattle.terms_bytes.specs.declared.answer.Refusal.{Refusal}
use Rattle.field_pairs.specs.Slot.{flags_of}
use Rattle.verdict.specs.Outcome.{Outcome, gave, turned_back, unsettled_outcome, none_outcome}
use Rattle.fewest.specs.Apart.{of_fewest, area_after}
use Rattle.fewest.specs.Choices.{in_order}
use Rattle.fewest.specs.Fewest.{Fewest, undecided, none, chosen}
use Rattle.fewest_lists.specs.declared.best.Undecided.{Undecided}
use Rattle.fewest_lists.specs.declared.best.Choice.{Choice}
use Rattle.fewest_lists.specs.declared.best.Choice.TheVariants.{Unsettled, NoChoice, Length}

-- What is known of lists: the flags of the first that gave "same", unless one was unsettled.
abbrev pub Best : Type 0
Best = Result (Option (List ℕ)) Undecided

-- The lists judged so far give this.
unfoldable pub BestIs : Best → Fewest → Type 0
BestIs (Err u) undecided = Unit {0}
BestIs (Err u) none = ⊥
BestIs (Err u) (chosen D) = ⊥
BestIs (Ok None) undecided = ⊥
BestIs (Ok None) none = Unit {0}
BestIs (Ok None) (chosen D) = ⊥
BestIs (Ok (Some flags)) undecided = ⊥
BestIs (Ok (Some flags)) none = ⊥
BestIs (Ok (Some flags)) (chosen D) = flags ≡ flags_of D

-- what more lists add
unfoldable pub followed_by : Fewest → Fewest → Fewest
followed_by undecided g = undecided
followed_by none g = g
followed_by (chosen D) undecided = undecided
followed_by (chosen D) none = chosen D
followed_by (chosen D) (chosen E) = chosen D

unfoldable pub SameIs : Option (List ℕ) → List ℕ → Option (List ℕ) → Type 0
SameIs best flags r = (f : Fewest) (D : Pairs) → BestIs (Ok best) f → flags ≡ flags_of D → BestIs (Ok r) (followed_by f (chosen D))

unfoldable pub WithPair : List ℕ → List ℕ → ℕ → List ℕ → Type 0
WithPair flags pairs at r =
    (D : Pairs) (p : ℕ × ℕ) (ps : Pairs) → flags ≡ flags_of D → drop at pairs ≡ pair_bytes (p ∷ ps) → r ≡ flags_of (D ++ (p ∷ []))

-- each choice replaced by its list
unfoldable pub mapped : (Pairs → Pairs) → Fewest → Fewest
mapped g undecided = undecided
mapped g none = none
mapped g (chosen D) = chosen (g D)

-- The enum's cases as outcomes.
unfoldable pub choice_outcome : Choice → Outcome
choice_outcome Unsettled = unsettled_outcome
choice_outcome NoChoice = none_outcome
choice_outcome (Length n) = gave n

-- The same, or the check that turned the operation back.
unfoldable pub apart_outcome : Result Choice Refusal → Outcome
apart_outcome (Err k) = turned_back (number_of k)
apart_outcome (Ok c) = choice_outcome c

-- The answer, and the list in the area.
pub record TellsOf (m : Answer Fewest) (area : List ℕ) (r : Choice) (area' : List ℕ) : Type 0 where
  pub answer : choice_outcome r ≡ of_fewest m
  pub left : area' ≡ area_after m area

unfoldable pub Tells : Best → List ℕ → Choice → List ℕ → Type 0
Tells best area r area' = (f : Fewest) → BestIs best f → TellsOf (result (mapped (in_order name_count) f)) area r area'
