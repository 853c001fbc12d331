pub mod Value
pub mod Level
pub mod Peak
pub mod Rest
pub mod Unfold
pub mod Sets
