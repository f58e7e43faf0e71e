-- What crates above cite of the crates beneath this one: they take it from here, so that the dependencies of a crate stay few.
unfoldable pub use Rattle.steps_placing.specs.Deciding.{fails, decided, Again}
