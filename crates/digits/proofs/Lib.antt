pub mod Table
pub mod Reading
pub mod Digits
pub mod Writing
