pub mod QuestionBodies
pub mod TidiedAlready
pub mod TidiedQuestion
