pub mod Keys
pub mod Places
pub mod Files
pub mod Routes
