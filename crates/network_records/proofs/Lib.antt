pub mod Accepted
pub mod Links
pub mod Rows
