pub mod Pair
pub mod Front
pub mod Steps
