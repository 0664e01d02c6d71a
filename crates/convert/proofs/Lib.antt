pub mod Entries
pub mod Scans
pub mod Stages
pub mod Orders
pub mod Fronts
pub mod Converts
pub mod Writes
pub mod Linked
