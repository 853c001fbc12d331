pub mod Network
pub mod Arranged
pub mod Next
