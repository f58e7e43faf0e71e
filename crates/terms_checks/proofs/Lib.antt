mod CheckLaws
mod CheckPlaces
mod CheckTerms
mod CheckWhole
pub mod FramedPlaces
