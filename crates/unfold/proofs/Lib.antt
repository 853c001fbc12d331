pub mod Writes
pub mod Contract
pub mod Enquiry
