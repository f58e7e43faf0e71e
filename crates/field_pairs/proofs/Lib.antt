pub mod Counting
pub mod EntryLaws
mod NameFlagLaws
pub mod PairLaws
pub mod PairNumbering
pub mod ReceivedNames
pub mod NamePairs
