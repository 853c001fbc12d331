pub mod Keys
pub mod Hops
pub mod Packet
