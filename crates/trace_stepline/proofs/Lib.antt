pub mod Pieces
pub mod Dotted
