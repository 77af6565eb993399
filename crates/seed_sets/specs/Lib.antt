pub mod Seeds
pub mod Gathering
pub mod Endings
pub mod Sectors
