pub mod BestLaws
pub mod FlagLaws
mod NameLaws
pub mod PairWriting
pub mod QuestionWriting
