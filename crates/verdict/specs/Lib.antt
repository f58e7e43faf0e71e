-- The verdict, the promises and the demands, in reading order.
-- what is demanded where all names differ: request 2026-02
pub mod Received
-- the verdict of a question
pub mod Verdict
-- what judge answers and leaves in its work area
pub mod Judge
-- answers as numbers over the C boundary
pub mod Outcome
-- what an answer of judge means: demand 2
pub mod Meaning
-- what the five operations promise
pub mod Promises
-- a list of changes: entries and the question at hand
pub mod Entries
-- demand 3 as one claim about a whole list
pub mod Demand
-- never "different": what requests 2026-07 and 2026-13 promise
pub mod NeverDifferent
-- the question about a pair inside a larger exchange: request 2026-13
pub mod Larger
