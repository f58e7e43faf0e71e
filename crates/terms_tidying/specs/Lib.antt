pub mod TidiedTerms
pub mod Tidying
