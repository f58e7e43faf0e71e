pub mod DemandedMoves
pub mod Demands
pub mod LeftLaws
pub mod Living
pub mod Marks
mod LotLaws
mod RunLaws
mod SideLaws
pub mod Sweeping
