-- What crates above cite of the crates beneath this one: they take it from here, so that the dependencies of a crate stay few.
pub use Rattle.field_renewal.specs.ListedEntries.{ListAt}
unfoldable pub use Rattle.field_renewal.specs.Below.{placed}
pub use Rattle.field_renewal.specs.Below.{Labelled}
pub use Rattle.steps_rows.specs.Rows.{row_bytes, most_rows}
