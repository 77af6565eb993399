pub mod IndexLists
pub mod Orders
mod ZeroSectorLemmas
