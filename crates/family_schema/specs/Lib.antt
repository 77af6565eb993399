pub mod Scope
pub mod FamilyFile
pub mod Sound
pub mod Laws
