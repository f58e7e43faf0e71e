-- What crates above cite of the crates beneath this one: they take it from here, so that the dependencies of a crate stay few.
pub use Rattle.field_renewal.specs.ListedEntries.{ListAt}
pub use Rattle.field_renewal.specs.Below.{Labelled}
