-- The known situations grow while exploration takes one up: each situation that it leads to is looked for among them and put behind them if it is
-- new. What the code promises of it.
use Rattle.std.specs.Prelude.{◌≤◌, length}
use Rattle.terms.specs.Encoding.{encode}
use Rattle.terms.specs.Limits.{longest_term}
use Rattle.field.specs.Situation.{Situation}

-- Both parts fit a slot.
pub record Fits (s : Situation) : Type 0 where
  pub first : length (encode 0 s.first) ≤ longest_term
  pub second : length (encode 0 s.second) ≤ longest_term
