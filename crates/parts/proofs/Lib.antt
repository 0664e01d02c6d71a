pub mod Scans
pub mod Arcs
pub mod Blocks
pub mod Limits
pub mod Rounds
pub mod Linked
