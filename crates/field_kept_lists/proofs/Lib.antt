mod ElsewhereLaws
pub mod KeptListLaws
mod LabelLaws
pub mod ListAreaLaws
