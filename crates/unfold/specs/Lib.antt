pub mod Contract
pub mod Unfolded
