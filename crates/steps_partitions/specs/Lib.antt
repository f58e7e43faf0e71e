-- The conditions on the names of a call, numbered (document 02, request 2026-01).
-- partitions of a call's names and their numbers
pub mod Partition
