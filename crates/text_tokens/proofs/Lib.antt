pub mod TokenLemmas
pub mod NumberLemmas
pub mod NameLemmas
pub mod Reading
pub mod FaultLemmas
