pub mod AscendingLists
pub mod GatheringLemmas
pub mod EndingLemmas
pub mod SectorLemmas
pub mod SpecLemmas
