pub mod Arcs
pub mod Walks
pub mod Splits
pub mod Rounds
pub mod Members
pub mod Orders
