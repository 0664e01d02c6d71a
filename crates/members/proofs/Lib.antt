pub mod Tables
pub mod Linked
