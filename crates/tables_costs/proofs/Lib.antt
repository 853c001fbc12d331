pub mod Corners
pub mod Values
pub mod Worth
