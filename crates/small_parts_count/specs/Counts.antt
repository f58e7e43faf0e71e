-- What count promises: the numbers of the census, or that the length is above the greatest.
use Rattle.std.specs.Prelude.{Option, Some, None, ℕ, ◌≤◌, ◌<◌}
use Rattle.small_parts.specs.Census.{greatest_length, CensusIs}
use Rattle.small_parts_count.specs.declared.tally.Tally.{Tally}

unfoldable pub CountIs : ℕ → Option Tally → Type 0
CountIs n (Some t) = (n ≤ greatest_length) × CensusIs n t.same t.different t.unsettled
CountIs n None = greatest_length < n
