-- Pairs of names by their numbers, for any number of names: 0-1, 0-2 and so on, the smaller name first.
use Rattle.std.specs.Prelude.{ℕ, zero, suc, ◌+◌, ◌-◌, ◌*◌, ◌/◌, get_or}
use Rattle.terms.specs.Limits.{name_count}
use Rattle.field.specs.Situation.{all_pairs}

-- pair k
unfoldable pub pair_at : ℕ → ℕ → ℕ × ℕ
pair_at names k = get_or (all_pairs names) k (0, 0)

-- the number of the first pair whose smaller name is a: the pairs of one smaller name stand in a row
unfoldable pub row_start : ℕ → ℕ → ℕ
row_start names zero = 0
row_start names (suc a) = names - 1 + row_start (names - 1) a

-- how many pairs there are
unfoldable pub pairs_among : ℕ → ℕ
pairs_among names = row_start names names

-- the number of the pair of a and b
unfoldable pub number_of : ℕ → ℕ → ℕ → ℕ
number_of names a b = row_start names a + (b - a - 1)

-- how many pairs there are of the names that a part may have
abbrev pub pair_count : ℕ
pair_count = name_count * (name_count - 1) / 2
