pub mod ConvertLaws
pub mod FittingLaws
pub mod FrontLaws
pub mod PlainForm
pub mod QuestionLaws
pub mod TurnedBack
