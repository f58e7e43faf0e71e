-- Situations and the field, in reading order.
-- the definitions and limits that the field depends on
pub mod Setting
-- a situation, its new name and the start
pub mod Situation
-- permitted steps, answers and successors
pub mod Successors
-- the field as the smallest set, and its limits
pub mod Field
-- the field found by exploration
pub mod Exploration
