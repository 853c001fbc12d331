pub mod Loop
pub mod Costs
pub mod Cells
pub mod Rooms
