-- The edition as the code is handed it: whether calls are counted, that is, have their number of names written behind their definition.
use Rattle.std.specs.Prelude.{Bool, true, false}
use Rattle.terms.specs.Edition.{Edition, one, two}

unfoldable pub edition_from : Bool → Edition
edition_from true = two
edition_from false = one
