pub mod ClassBytes
mod ConditionArrays
mod LabelRules
pub mod NameSlots
pub mod SlotLaws
