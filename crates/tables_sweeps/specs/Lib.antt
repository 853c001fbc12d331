pub mod Row
pub mod Sweep
pub mod Filled
