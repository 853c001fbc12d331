pub mod Stores
pub mod Marks
pub mod Keeps
pub mod Heads
