pub mod LabelWalk
