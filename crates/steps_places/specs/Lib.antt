-- The places of a call (document 02, request 2026-01).
-- the table of places
pub mod PlaceTable
-- what the walk of a body puts into it
pub mod PlaceWalks
-- the places by number
pub mod PlaceNumbers
