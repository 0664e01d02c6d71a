pub mod Rates
pub mod Answers
pub mod Linked
