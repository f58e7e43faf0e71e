pub mod CountedLaws
pub mod Heights
pub mod NameTables
pub mod Places
pub mod QuestionPlaces
pub mod Shapes
pub mod Stores
