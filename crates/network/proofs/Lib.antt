pub mod Fields
pub mod Groups
pub mod Steps
pub mod Walks
