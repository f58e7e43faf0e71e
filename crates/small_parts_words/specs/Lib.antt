-- words by their numbers, and which of them are parts of the census
pub mod Words
