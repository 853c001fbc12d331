pub mod Columns
pub mod Valid
pub mod Kinds
