pub mod Least
pub mod Telling
pub mod Listing
pub mod Places
pub mod Landings
pub mod Finishing
