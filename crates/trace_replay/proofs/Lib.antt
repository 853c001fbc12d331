pub mod Entries
pub mod Finding
pub mod Ways
