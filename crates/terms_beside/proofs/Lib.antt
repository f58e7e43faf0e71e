mod BesideChecks
mod BesideWriting
