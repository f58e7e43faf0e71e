-- pairs counted by their verdict
pub mod Tallies
-- what count promises
pub mod Counts
