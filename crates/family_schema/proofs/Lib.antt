pub mod Single
mod Present
pub mod Bound
mod SectorBounds
mod ScopeCounts
