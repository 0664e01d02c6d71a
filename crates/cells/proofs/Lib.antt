pub mod Tables
pub mod Peaks
pub mod Rows
pub mod Linked
