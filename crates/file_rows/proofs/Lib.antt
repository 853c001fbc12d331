pub mod Entries
pub mod Laying
pub mod Order
