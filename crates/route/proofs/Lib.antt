pub mod Enquiries
