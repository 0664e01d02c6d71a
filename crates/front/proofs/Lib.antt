pub mod Pairs
pub mod Grid
pub mod Fronts
pub mod Joins
pub mod Linked
