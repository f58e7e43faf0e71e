-- What opening a call reaches, in its bytes (document 02, request 2026-01).
-- the table of calls
pub mod CallTable
-- what the walk of a body puts into it
pub mod Walks
