pub mod Command
pub mod Places
pub mod Request
pub mod Laws
