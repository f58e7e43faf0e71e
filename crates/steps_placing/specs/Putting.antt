-- What putting candidates into a list needs.
use Rattle.std.specs.Prelude.{List, ℕ, ◌≤◌, length}
use Rattle.steps.specs.Limits.{most_steps}
use Rattle.steps_entries.specs.Entries.{list_room}
use Rattle.steps_splicing.specs.Ready.{Tallied}

-- The list has so many steps, and its area room for as many as the limit allows.
abbrev pub HasRoom : (area : List ℕ) (count : ℕ) → Type 0
HasRoom area count = (count ≤ most_steps) × (list_room ≤ length area)

-- And the part whose candidates are put into it is tallied.
abbrev pub CanPut : (question bodies part tally area : List ℕ) (count : ℕ) → Type 0
CanPut question bodies part tally area count = HasRoom area count × Tallied question bodies part tally

-- More than a tallied part has candidates: 112 bytes, each with a number below 2 to the power of 32.
abbrev pub most_candidates : ℕ
most_candidates = 1099511627776
