pub mod Pairs
pub mod Rows
pub mod Handing
pub mod Answering
pub mod Routing
pub mod Demands
