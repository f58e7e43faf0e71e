-- The edition, once it is known whether calls are counted.
use mathlib.Core.Path.{◌≡◌, ap}
use mathlib.Core.Bool.{Bool, true, false}
use Rattle.terms.specs.Edition.{one, two}
use Rattle.terms_bytes.specs.Counted.{edition_from}

pub is_two : (counted : Bool) → counted ≡ true → edition_from counted ≡ two
unfolding edition_from
is_two counted e = ap edition_from e

pub is_one : (counted : Bool) → counted ≡ false → edition_from counted ≡ one
unfolding edition_from
is_one counted e = ap edition_from e
