pub mod CapacityAnswers
