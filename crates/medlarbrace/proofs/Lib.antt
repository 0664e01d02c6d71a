pub mod Opened
pub mod Linked
