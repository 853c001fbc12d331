pub mod Finish
pub mod Tunnel
pub mod Sought
pub mod Ways
pub mod Picking
pub mod Standing
pub mod Adding
pub mod Opened
