pub mod Better
pub mod Crossings
pub mod Serves
pub mod Pass
