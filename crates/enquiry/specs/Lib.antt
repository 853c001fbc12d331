pub mod Loaded
pub mod Ready
