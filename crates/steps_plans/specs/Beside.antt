-- What stands beside the component of a parallel that steps alone is copied, where no name changes: what the functions that do so promise.
use Rattle.std.specs.Prelude.{◌≡◌, Bool, true, false, List, ◌++◌, ℕ, ◌+◌, ◌-◌, ◌<◌, ◌≤◌, length, take, drop}
use Rattle.calculus.specs.Term.{Term}
use Rattle.terms.specs.Answer.{result}
use Rattle.terms.specs.Encoding.{encode, InScope}
use Rattle.terms.specs.Limits.{name_count}
use Rattle.terms.specs.Question.{Question, check_of}
use Rattle.terms.specs.Question.{body_of}
use Rattle.steps_conditions.specs.Names.{UnchangedIs}
use Rattle.steps_plans.specs.Plans.{Asks, Written, numbered}
use Rattle.steps_tallies.specs.Tally.{end_at, TallyIs}
use Rattle.steps_passing.specs.declared.pass.Branch.{Branch}
use Rattle.steps_plans.specs.declared.plan.Task.{Task}

-- Of the term P at `at` bs is asked for. A term at b stands in it between other bytes, and so does what is asked for of its candidate number n in bs.
pub record Beside (names : List ℕ) (task : Task) (q : Question) (free D : ℕ) (σ : ℕ → ℕ) (P : Term) (bs : List ℕ) (top at b n : ℕ) : Type 0 where
  pub before : List ℕ
  pub term : Term
  pub own : List ℕ
  pub behind : List ℕ
  pub place : at + length before ≡ b
  pub whole : encode D P ≡ before ++ (encode D term ++ behind)
  pub scope : InScope free q.arities D term
  pub asks : Asks names (numbered n task) (body_of q.bodies) free D σ term own top
  pub bytes : bs ≡ before ++ (own ++ behind)

-- So it is for a task of the term at `at`, where no name changes.
unfoldable pub StandsBeside : (s t : List ℕ) (at D : ℕ) (names : List ℕ) (task : Task) (b n : ℕ) → Type 0
StandsBeside s t at D names task b n =
    (question : List ℕ) → TallyIs question s task.calls t
    → (q : Question) (free : ℕ) (σ : ℕ → ℕ) (P : Term) (rest bs : List ℕ) (top : ℕ)
    → check_of question ≡ result q
    → free ≤ name_count
    → InScope free q.arities D P
    → drop at s ≡ encode D P ++ rest
    → Asks names task (body_of q.bodies) free D σ P bs top
    → Beside names task q free D σ P bs top at b n

-- And so it is for any task of this number.
unfoldable pub FoundBeside : (s t : List ℕ) (at : ℕ) (silently : Bool) (number b n : ℕ) → Type 0
FoundBeside s t at silently number b n =
    (D : ℕ) (names : List ℕ) (task : Task)
    → task.still ≡ false
    → task.silently ≡ silently
    → task.number ≡ number
    → UnchangedIs names D task.levels true
    → StandsBeside s t at D names task b n

pub record AloneIs (s t : List ℕ) (at D : ℕ) (names : List ℕ) (task : Task) (r : Branch) : Type 0 where
  pub inside : r.at ≤ length s
  pub is : task.still ≡ false → at < r.at → StandsBeside s t at D names task r.at r.number

-- What stands in the term at `at` behind the one at b, unless there was no room before.
pub record BehindIs (s t : List ℕ) (at b : ℕ) (out : List ℕ) (put r : ℕ) (out' : List ℕ) : Type 0 where
  pub on : put ≤ r
  pub stopped : length out < put → (r ≡ put) × (out' ≡ out)
  pub is : put ≤ length out → end_at t b ≤ end_at t at → Written out put (take (end_at t at - end_at t b) (drop (end_at t b) s)) r out'
