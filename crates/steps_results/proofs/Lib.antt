pub mod SilentSteps
