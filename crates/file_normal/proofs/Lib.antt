pub mod Parts
pub mod Rows
pub mod Answers
pub mod Numbers
pub mod Demands
