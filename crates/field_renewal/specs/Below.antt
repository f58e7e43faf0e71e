-- What crates above cite of the crates beneath this one: they take it from here, so that the dependencies of a crate stay few.
unfoldable pub use Rattle.field_successors.specs.Leading.{placed}
pub use Rattle.field_kept_lists.specs.ListArea.{Labelled}
