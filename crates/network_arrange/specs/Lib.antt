pub mod Grouping
pub mod Counting
pub mod Arrangement
pub mod Records
