mod TidiedWalk
pub mod TidyCounts
mod TidyWalk
