pub mod Places
pub mod Starts
pub mod Regrouped
pub mod Hops
pub mod Arranging
pub mod LayingOut
