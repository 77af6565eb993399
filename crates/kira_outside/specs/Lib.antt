pub mod Faults
pub mod Held
pub mod Stream
pub mod MemoryState
