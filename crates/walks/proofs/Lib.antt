pub mod Again
pub mod Loop
