-- The fewest pairs of names to hold apart (document 02, request 2026-06), in reading order.
-- the pairs that may be chosen, the choices in their order, the enlarged apart list
pub mod Choices
-- the first choice that gives "same"
pub mod Fewest
-- what the operation answers and leaves in its areas
pub mod Apart
-- what its answer means
pub mod Meaning
