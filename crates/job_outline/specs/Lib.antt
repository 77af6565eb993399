pub mod Shapes
pub mod Outlines
pub mod KeptOutline
pub mod Readings
pub mod Laws
