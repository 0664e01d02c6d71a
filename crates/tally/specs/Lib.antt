pub mod Cells
pub mod Calls
pub mod Steps
