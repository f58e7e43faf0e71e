-- The steps of calls opened with all that they reach (document 02, request 2026-01).
-- the candidates of a call from its places
pub mod Expanding
