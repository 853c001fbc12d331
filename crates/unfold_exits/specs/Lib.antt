pub mod Cost
pub mod Lists
pub mod Exits
