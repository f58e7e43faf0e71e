-- The census of small parts (document 02, request 2026-14), in reading order.
-- how many things there are with a property
pub mod Counted
-- the parts of a length, their ordered pairs by verdict, and the numbers of each
pub mod Census
