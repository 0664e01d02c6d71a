pub mod Weights
pub mod Classes
pub mod Bounds
