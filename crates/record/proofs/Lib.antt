pub mod Bytes
pub mod Records
pub mod Scans
pub mod Linked
