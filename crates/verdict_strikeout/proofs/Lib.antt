pub mod AnyOrder
mod BlockLaws
pub mod EqualParts
pub mod FieldKept
pub mod StrikeLaws
pub mod Unanswered
