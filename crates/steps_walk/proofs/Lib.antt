mod ComponentLaws
mod VisibleBound
pub mod WalkLaws
pub mod WalksPart
pub mod Below
