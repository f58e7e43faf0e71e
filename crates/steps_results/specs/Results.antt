-- The bytes of a candidate's result, written in place: the promises of the functions that write them.
-- The result is written under a renaming ρ, and the name received or extruded as x. So the lister's table, the classes of the condition and the
-- given new name, has the canonical result written at once; and a communication puts the name sent for x, or a new restriction.
use Rattle.std.specs.Prelude.{◌≡◌, Bool, List, ℕ, ◌+◌, ◌≤◌, length}
use Rattle.terms.specs.Limits.{greatest_arity, longest_term}
use Rattle.steps_conditions.specs.Names.{name_slots}
use Rattle.steps_passing.specs.Passing.{PassIs, opens_at}
use Rattle.steps_tallies.specs.Tally.{TallyIs, BodiesTallied}
use Rattle.steps_passing.specs.declared.pass.Passed.{Passed}
use Rattle.steps_plans.specs.declared.plan.Task.{Task}
use Rattle.steps_plans.specs.Plans.{Room}

-- Whether the name of the restriction at `at` is sent, by what the action of the candidate beneath it does.
pub record ExtrudedIs (question s : List ℕ) (at D : ℕ) (task : Task) (r : Bool) : Type 0 where
  pub passed : Passed
  pub does : PassIs question s (at + 1) (D + 1) task.calls task.silently task.number passed
  pub is : r ≡ opens_at D passed.kind passed.object

-- What the walk needs.
abbrev pub Writing : List ℕ → List ℕ → List ℕ → List ℕ → ℕ → ℕ → List ℕ → Task → List ℕ → ℕ → Type 0
Writing question bodies s t at D names task out put =
    (length s ≤ longest_term) × (D ≤ at + greatest_arity) × (task.calls ≤ 1) × (length names ≡ name_slots) × Room task.calls task.levels at out put
    × TallyIs question s task.calls t × BodiesTallied question bodies
