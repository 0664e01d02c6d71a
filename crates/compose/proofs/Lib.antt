pub mod Merges
pub mod Answers
pub mod Algebra
pub mod Linked
