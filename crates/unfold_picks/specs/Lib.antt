pub mod Look
pub mod Contract
pub mod Opening
