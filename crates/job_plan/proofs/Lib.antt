pub mod PlanLemmas
pub mod ListLemmas
pub mod ShapeLemmas
pub mod GatheringLemmas
pub mod SeedLemmas
pub mod SingleLemmas
pub mod AgreementLemmas
mod Present
