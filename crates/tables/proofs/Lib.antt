pub mod Turns
pub mod Settling
