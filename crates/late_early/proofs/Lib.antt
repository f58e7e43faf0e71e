pub mod ConcreteSteps
pub mod LateEarlyLaws
pub mod LateEarlyTheorems
pub mod ReceivedNames
