-- What opening a call reaches (document 02, request 2026-01), in reading order.
-- calls without a prefix, and the calls that they reach
pub mod Reach
-- the search for them, each with its condition
pub mod ReachSearch
-- the limit: so many calls that differ
pub mod ReachLimit
