pub mod Scans
pub mod Crossings
pub mod Closings
pub mod Turns
